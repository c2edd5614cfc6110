-- What a table holds of a key.
use Rattle.census.proofs.Prelude.{◌≡◌, ℕ, Bool, true, false, cond, List, Option, Some, refl, sym, ap, ◌∙◌, unwrap_or, nat_cmp, bytes_eq, slice_cmp, Ordering, BTreeMap, UpdatesBy, get_by, is_eq-slice_cmp, bytes_eq-Decides, bytes_flip}
use Rattle.census.proofs.Prelude.{key_of, Op, KeyState, entry_cmp, after, untouched}
use denote.Ref.{Bor}

abbrev ref : List ℕ → Bor (List ℕ)
ref key = record { ref_ptr = (0, 0); now = key }

abbrev pub ref_cmp : Bor (List ℕ) → Bor (List ℕ) → Ordering
ref_cmp a b = slice_cmp nat_cmp a.now b.now

abbrev pub Table : Type 0
Table = BTreeMap (Bor (List ℕ)) KeyState

abbrev state_at : Table → List ℕ → KeyState
state_at table k = unwrap_or (get_by (entry_cmp k) table) untouched

pub held : (old new : Table) (key : List ℕ) (state : KeyState) (op : Op) → key ≡ key_of op → state ≡ after (state_at old key) op → UpdatesBy ref_cmp (entry_cmp key) old new (Some state)
    → (k : List ℕ) → state_at new k ≡ cond (bytes_eq k (key_of op)) (after (state_at old k) op) (state_at old k)
held old new key state op same is h k =
    ap (λ (o : Option KeyState). unwrap_or o untouched) (h.0 (ref k) ∙ ap (λ b. cond b (Some state) (get_by (entry_cmp k) old)) (is_eq-slice_cmp key k ∙ bytes_flip key k ∙ ap (bytes_eq k) same))
    ∙ both (bytes_eq k (key_of op)) (λ t. (bytes_eq-Decides k (key_of op)).0 t ∙ sym same)
  where
    both : (b : Bool) → (b ≡ true → k ≡ key) → unwrap_or (cond b (Some state) (get_by (entry_cmp k) old)) untouched ≡ cond b (after (state_at old k) op) (state_at old k)
    both true at = is ∙ ap (λ l. after (state_at old l) op) (sym (at refl))
    both false at = refl
