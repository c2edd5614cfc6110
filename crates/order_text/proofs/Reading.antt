-- What a line that is read names, and the lines that are read one after another.
use Rattle.order_text.proofs.Prelude.{◌≡◌, ℕ, zero, suc, ◌+◌, ◌<◌, ◌≤◌, ◌^◌, Bool, true, false, cond, List, [], ◌∷◌, ◌++◌, length, Option, Some, None, refl, sym, ap, ◌∙◌, subst, arith, append_assoc, ◌==◌, ◌&&◌, position, take, drop, nat_lt}
use Rattle.order_text.proofs.Prelude.{option_and_then, decimal, find, range_with_len, All, option_map, option_map_or, option_or, and_parts, eqb-true, false≢true, cond-false, cond-true, le-ltb, lt-ltb, append-nil, All-push}
use Rattle.order_text.proofs.Prelude.{option_and_then_some, same_Some, ClientSession, lines, bytes_of, number_of, number_sound, split_at_space, lines-nil, Committed, committed_in, node_of, log_of, name_in, node_named, joined_by, name_line}
use Rattle.order_text.proofs.Prelude.{order_text, AreNodes, words_of, named_by, named, line_fault, first_fault, order_fault, IsOrderFault, OrderFault, BadLine, NoSuchTransaction, TooLong, Memory}
use Rattle.std.proofs.lemmas.List.Concat.{flat_map-append}

-- ---- names

-- one of nodes 1 to n
abbrev pub IsNode : List ClientSession → ℕ → Type 0
IsNode ss v = (0 < v) × (v ≤ (log_of ss).nodes)

-- what `find` finds in a range passes the test
pub found : (p : ℕ → Bool) (a n v : ℕ) → find p (range_with_len a n) ≡ Some v → (p v ≡ true) × (a ≤ v) × (v < a + n)
found p a zero v e = cc
found p a (suc n) v e = go (p a) refl e (found p (a + 1) n v)
  where
    go : (b : Bool) → p a ≡ b → cond b (Some a) (find p (range_with_len (a + 1) n)) ≡ Some v → (find p (range_with_len (a + 1) n) ≡ Some v → (p v ≡ true) × (a + 1 ≤ v) × (v < a + 1 + n)) → (p v ≡ true) × (a ≤ v) × (v < a + suc n)
    go true t s later = let same = same_Some a v s in (subst (λ u. p u ≡ true) same t, omega (arith, same), omega (arith, same))
    go false t s later = let r = later s in (r.0, omega (arith, r.1), omega (arith, r.2))

-- the node has this name
abbrev pub has_name : List ClientSession → ℕ → ℕ → ℕ → Bool
has_name ss s t v = option_map_or (λ (node : Committed). (node.session == s) && (node.place == t)) (node_of ss v) false

-- its name, which is that of node 0 where there is none
abbrev pub name_at : Option Committed → ℕ × ℕ
name_at o = option_map_or (λ (node : Committed). (node.session, node.place)) o (0, 0)

named_as : (s t : ℕ) (o : Option Committed) → option_map_or (λ (node : Committed). (node.session == s) && (node.place == t)) o false ≡ true → name_at o ≡ (s, t)
named_as s t None e = absurd (false≢true e)
named_as s t (Some c) e =
    let parts = and_parts (c.session == s) (c.place == t) e in
    let one = eqb-true c.session s parts.0 in
    let two = eqb-true c.place t parts.1 in
    cc

pub node_named-sound : (ss : List ClientSession) (s t v : ℕ) → node_named ss s t ≡ Some v → (name_in ss v ≡ (s, t)) × IsNode ss v
unfolding log_of
node_named-sound ss s t v e =
    let f = found (has_name ss s t) 1 (length (committed_in ss)) v e in
    (named_as s t (node_of ss v) f.0, (omega (arith, f.1), omega (arith, f.2)))

named_by-sound : (ss : List ClientSession) (one two : List ℕ) (v : ℕ) → named_by ss one two ≡ Some v → (one ++ 32 ∷ two ≡ joined_by 32 (name_in ss v)) × IsNode ss v
unfolding named_by
named_by-sound ss one two v e =
    option_and_then_some (λ s. option_and_then (λ t. node_named ss s t) (number_of two)) (number_of one) v e
    (λ s is_s rest. option_and_then_some (λ t. node_named ss s t) (number_of two) v rest
    (λ t is_t last.
    let node = node_named-sound ss s t v last in
    let first = (number_sound one s is_s).0 in
    let second = (number_sound two t is_t).0 in
    (ap (λ x. x ++ 32 ∷ two) first ∙ ap (λ x. decimal s ++ 32 ∷ x) second ∙ ap (joined_by 32) (sym node.0), node.1)))

mapped : {A B : Type 0} (f : A → B) (o : Option A) (b : B) → option_map f o ≡ Some b → (a : A) × (o ≡ Some a) × (f a ≡ b)
mapped f None b e = cc
mapped f (Some a) b e = (a, refl, same_Some (f a) b e)

words_of-sound : (body : List ℕ) (words : List ℕ × List ℕ) → words_of body ≡ Some words → body ≡ words.0 ++ 32 ∷ words.1
unfolding words_of
words_of-sound body words e =
    let m = mapped (λ i. (take i body, drop (i + 1) body)) (position (λ b. b == 32) body) words e in
    split_at_space body m.0 (sym m.1) ∙ ap (λ (w : List ℕ × List ℕ). w.0 ++ 32 ∷ w.1) m.2

pub named-sound : (ss : List ClientSession) (body : List ℕ) (v : ℕ) → named ss body ≡ Some v → (body ≡ joined_by 32 (name_in ss v)) × IsNode ss v
named-sound ss body v e =
    option_and_then_some (λ (words : List ℕ × List ℕ). named_by ss words.0 words.1) (words_of body) v e
    (λ words split last. let n = named_by-sound ss words.0 words.1 v last in (words_of-sound body words split ∙ n.0, n.1))

ended_where_accepted : (ss : List ClientSession) (n : ℕ) (body : List ℕ) (ended : Bool) → line_fault ss n (body, ended) ≡ None → ended ≡ true
unfolding line_fault
ended_where_accepted ss n body true e = refl
ended_where_accepted ss n body false e = cc

-- ---- one line more

pub order_text-push : (ss : List ClientSession) (order : List ℕ) (v : ℕ) → order_text ss (order ++ v ∷ []) ≡ order_text ss order ++ name_line (name_in ss v)
unfolding order_text
order_text-push ss order v =
    flat_map-append (λ u. name_line (name_in ss u)) order (v ∷ []) ∙ ap (λ t. order_text ss order ++ t) (append-nil (name_line (name_in ss v)))

-- a line that was read: its fault, and the node that it names
pub record IsRead (ss : List ClientSession) (n : ℕ) (l : List ℕ × Bool) (v : ℕ) : Type 0 where
  pub accepted : line_fault ss n l ≡ None
  pub named : named ss l.0 ≡ Some v

pub bytes_read : (ss : List ClientSession) (n : ℕ) (body : List ℕ) (ended : Bool) (v : ℕ) → IsRead ss n (body, ended) v → bytes_of (body, ended) ≡ name_line (name_in ss v)
bytes_read ss n body ended v r =
    let lf = ended_where_accepted ss n body ended r.accepted in
    ap (λ e. bytes_of (body, e)) lf ∙ ap (λ x. x ++ 10 ∷ []) (named-sound ss body v r.named).0

pub text_on : (ss : List ClientSession) (n : ℕ) (body : List ℕ) (ended : Bool) (v : ℕ) (old new text rest after : List ℕ) → IsRead ss n (body, ended) v → text ≡ order_text ss old ++ rest → rest ≡ bytes_of (body, ended) ++ after → new ≡ old ++ v ∷ [] → text ≡ order_text ss new ++ after
text_on ss n body ended v old new text rest after r a b c =
    a ∙ ap (λ x. order_text ss old ++ x) (b ∙ ap (λ x. x ++ after) (bytes_read ss n body ended v r))
    ∙ sym (append_assoc (order_text ss old) (name_line (name_in ss v)) after)
    ∙ ap (λ x. x ++ after) (sym (order_text-push ss old v) ∙ ap (order_text ss) (sym c))

pub nodes_on : (ss : List ClientSession) (n : ℕ) (l : List ℕ × Bool) (v : ℕ) (old new : List ℕ) → IsRead ss n l v → AreNodes ss old → new ≡ old ++ v ∷ [] → AreNodes ss new
nodes_on ss n l v old new r h e =
    subst (All (IsNode ss)) (sym e) (All-push (IsNode ss) old v h (named-sound ss l.0 v r.named).1)

pub fault_on : (ss : List ClientSession) (n : ℕ) (l : List ℕ × Bool) (v : ℕ) (ls rest : List (List ℕ × Bool)) → IsRead ss n l v → rest ≡ l ∷ ls → first_fault ss n rest ≡ first_fault ss (n + 1) ls
fault_on ss n l v ls rest r e = ap (first_fault ss n) e ∙ ap (λ o. option_or o (first_fault ss (n + 1) ls)) r.accepted

pub fault_stop : (ss : List ClientSession) (n : ℕ) (l : List ℕ × Bool) (ls rest : List (List ℕ × Bool)) (f : OrderFault) → rest ≡ l ∷ ls → line_fault ss n l ≡ Some f → first_fault ss n rest ≡ Some f
fault_stop ss n l ls rest f e h = ap (first_fault ss n) e ∙ ap (λ o. option_or o (first_fault ss (n + 1) ls)) h

pub no_lines : (ss : List ClientSession) (n : ℕ) (rest : List ℕ) → 0 ≡ length rest → first_fault ss n (lines rest) ≡ None
no_lines ss n [] e = ap (first_fault ss n) lines-nil
no_lines ss n (b ∷ bs) e = absurd (omega arith)

-- ---- the whole text

pub short_fault : (ss : List ClientSession) (text : List ℕ) → length text ≤ 2 ^ 20 → order_fault ss text ≡ first_fault ss 1 (lines text)
unfolding order_fault
short_fault ss text h = cond-false (nat_lt (2 ^ 20) (length text)) (Some TooLong) (first_fault ss 1 (lines text)) (le-ltb (2 ^ 20) (length text) h)

pub is_fault : (f : OrderFault) (whole : Option OrderFault) → whole ≡ Some f → IsOrderFault f whole
is_fault Memory whole e = tt
is_fault (BadLine n) whole e = e
is_fault (NoSuchTransaction n) whole e = e
is_fault TooLong whole e = e

pub long_fault : (ss : List ClientSession) (text : List ℕ) → 2 ^ 20 < length text → order_fault ss text ≡ Some TooLong
unfolding order_fault
long_fault ss text h = cond-true (nat_lt (2 ^ 20) (length text)) (Some TooLong) (first_fault ss 1 (lines text)) (lt-ltb (2 ^ 20) (length text) h)

pub nothing_read : (ss : List ClientSession) (text order : List ℕ) → order ≡ [] → text ≡ order_text ss order ++ text
unfolding order_text
nothing_read ss text order e = rw e refl
