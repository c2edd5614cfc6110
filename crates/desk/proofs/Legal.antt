-- Histories with one step more.
use Rattle.desk.proofs.Prelude.{◌≡◌, ◌≢◌, ℕ, List, [], ◌∷◌, ◌++◌, Bool, true, false, Option, ◌==◌, refl, sym, ap, ◌∙◌, subst, if◌then◌else◌, eq-eqb, eqb-true, Entry, entry, replay, IsLegal, part_of, IsEntered, IsReached}

module _ {S E R : Type 0} (next : S → ℕ → E → S) (reply : S → ℕ → E → R) where
  pub replay-push : (s : S) (xs : List (Entry E R)) (x : Entry E R) → replay next s (xs ++ x ∷ []) ≡ next (replay next s xs) x.seat x.event
  replay-push s [] x = refl
  replay-push s (y ∷ ys) x = replay-push (next s y.seat y.event) ys x

  pub legal-push : (s : S) (xs : List (Entry E R)) (x : Entry E R) → IsLegal next reply s xs → x.reply ≡ reply (replay next s xs) x.seat x.event → IsLegal next reply s (xs ++ x ∷ [])
  legal-push s [] x legal same = (same, tt)
  legal-push s (y ∷ ys) x legal same = (legal.0, legal-push (next s y.seat y.event) ys x legal.1 same)

  -- the machine makes one step, and the history has it
  pub reached-push : (opening : Option S) (xs now : List (Entry E R)) (s t : S) (seat : ℕ) (event : E) (r : R)
      → IsReached next reply opening xs s → now ≡ xs ++ entry seat event r ∷ [] → r ≡ reply s seat event → t ≡ next s seat event → IsReached next reply opening now t
  reached-push opening xs now s t seat event r h is answered moved =
      let x = entry seat event r in (
        h.0,
        h.1,
        subst (IsLegal next reply h.0) (sym is) (legal-push h.0 xs x h.2 (answered ∙ ap (λ u. reply u seat event) h.3)),
        moved ∙ ap (λ u. next u seat event) h.3 ∙ sym (replay-push h.0 xs x) ∙ ap (replay next h.0) (sym is),
      )

-- a step of the machine that is entered into the history
module _ {S E R : Type 0} (next : S → ℕ → E → S) (reply : S → ℕ → E → R) (Allowed : S → Type 0) where
  pub entered-push : (opening : Option S) (xs now : List (Entry E R)) (s : S) (seat : ℕ) (event : E) (r : R) (calls : List (E × R))
      → Allowed s → IsReached next reply opening xs s → now ≡ xs ++ entry seat event r ∷ [] → r ≡ reply s seat event → part_of seat now ≡ calls → IsEntered next reply Allowed seat event r calls
  entered-push opening xs now s seat event r calls may h is answered part = record {
    opening = opening;
    before = xs;
    state = s;
    allowed = may;
    reached = h;
    legal = reached-push next reply opening xs (xs ++ entry seat event r ∷ []) s (next s seat event) seat event r h refl answered refl;
    part = ap (part_of seat) (sym is) ∙ part;
  }

  -- in each state that is allowed here, what is asked there holds
  pub entered-weaker : (Asked : S → Type 0) (seat : ℕ) (event : E) (r : R) (calls : List (E × R)) → ((s : S) → Allowed s → Asked s) → IsEntered next reply Allowed seat event r calls → IsEntered next reply Asked seat event r calls
  entered-weaker Asked seat event r calls f h =
      record { opening = h.opening; before = h.before; state = h.state; allowed = f h.state h.allowed; reached = h.reached; legal = h.legal; part = h.part }

choose : {A : Type 0} (b c : Bool) (x y : A) → b ≡ c → (if b then x else y) ≡ (if c then x else y)
choose b c x y e = ap (λ t. if t then x else y) e

pub not_equal : (a b : ℕ) → a ≢ b → (a == b) ≡ false
not_equal a b apart = by (a == b) refl
  where
    by : (t : Bool) → (a == b) ≡ t → t ≡ false
    by true e = absurd (apart (eqb-true a b e))
    by false e = refl

module _ {E R : Type 0} where
  one_part : (seat : ℕ) (x : Entry E R) (b : Bool) (rest more : List (E × R)) → (if b then (x.event, x.reply) ∷ (rest ++ more) else rest ++ more) ≡ (if b then (x.event, x.reply) ∷ rest else rest) ++ more
  one_part seat x true rest more = refl
  one_part seat x false rest more = refl

  pub part_of-append : (seat : ℕ) (xs ys : List (Entry E R)) → part_of seat (xs ++ ys) ≡ part_of seat xs ++ part_of seat ys
  part_of-append seat [] ys = refl
  part_of-append seat (x ∷ xs) ys =
      ap (λ l. if x.seat == seat then (x.event, x.reply) ∷ l else l) (part_of-append seat xs ys) ∙ one_part seat x (x.seat == seat) (part_of seat xs) (part_of seat ys)

  pub part_of-mine : (seat : ℕ) (xs : List (Entry E R)) (event : E) (reply : R) → part_of seat (xs ++ entry seat event reply ∷ []) ≡ part_of seat xs ++ (event, reply) ∷ []
  part_of-mine seat xs event reply = part_of-append seat xs (entry seat event reply ∷ []) ∙ ap (λ l. part_of seat xs ++ l) (choose (seat == seat) true ((event, reply) ∷ []) [] (eq-eqb seat seat refl))

  nothing_more : (xs : List (E × R)) → xs ++ [] ≡ xs
  nothing_more [] = refl
  nothing_more (x ∷ xs) = ap (λ l. x ∷ l) (nothing_more xs)

  pub part_of-other : (other seat : ℕ) (xs : List (Entry E R)) (event : E) (reply : R) → seat ≢ other → part_of other (xs ++ entry seat event reply ∷ []) ≡ part_of other xs
  part_of-other other seat xs event reply apart =
      part_of-append other xs (entry seat event reply ∷ []) ∙ ap (λ l. part_of other xs ++ l) (choose (seat == other) false ((event, reply) ∷ []) [] (not_equal seat other apart)) ∙ nothing_more (part_of other xs)
