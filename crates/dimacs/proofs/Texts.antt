-- What a text says of its formula: its bytes are cut at spaces and line feeds.
use Rattle.dimacs.proofs.Prelude.{◌≡◌, ℕ, zero, suc, ◌+◌, ◌/◌, ◌%◌, ◌^◌, ◌<◌, Bool, true, false, cond, get_or, List, [], ◌∷◌, ◌++◌, length, refl, sym, ap, ◌∙◌, subst, arith, append_assoc, IsWithin, decimal, map, codes, ◌==◌, digits}
use Rattle.dimacs.proofs.Prelude.{digits_onto, digit_glyph, All, AllByRecursion, flat_map, slice_split, ne_eqb, eq-eqb, lt-ltb, cond_both, append_cancel_right, append_cancel_left, All-nil, All-cons, All-append, slice_split_none}
use Rattle.dimacs.proofs.Prelude.{slice_split_at, decimal_injective, first_decimal, Literal, Cnf, IsInRange, literal_text, clause_text, header, text_of}
use Rattle.dimacs.proofs.Cuts.{is_lf}

-- ---- bytes that a list has not
abbrev pub Avoids : ℕ → List ℕ → Type 0
Avoids c bytes = All (λ b. (b == c) ≡ false) bytes

glyph_avoids : (c d : ℕ) → c < 45 → d < 10 → (digit_glyph false d == c) ≡ false
glyph_avoids c d low small =
    let glyph : digit_glyph false d ≡ 48 + d = rw (lt-ltb d 10 small) refl in
    ne_eqb (digit_glyph false d) c (λ e. absurd (omega (arith, glyph)))

digits_avoid : (c k n : ℕ) (acc : List ℕ) → c < 45 → Avoids c acc → Avoids c (digits_onto k 10 false n acc)
digits_avoid c zero n acc low h = h
digits_avoid c (suc k) n acc low h =
    let here : Avoids c (digit_glyph false (n % 10) ∷ acc) = All-cons (λ b. (b == c) ≡ false) _ acc (glyph_avoids c (n % 10) low (omega arith)) h in
    cond_both (n / 10 == 0) _ _ (Avoids c) (λ _. here) (λ _. digits_avoid c k (n / 10) _ low here)

decimal_avoids : (c n : ℕ) → c < 45 → Avoids c (decimal n)
unfolding digits
decimal_avoids c n low = digits_avoid c 64 n [] low (All-nil _)

pub literal_avoids : (c : ℕ) (l : Literal) → c < 45 → Avoids c (literal_text l)
literal_avoids c l low =
    cond_both l.positive _ _ (Avoids c) (λ _. decimal_avoids c l.variable low)
    (λ _. All-cons (λ b. (b == c) ≡ false) 45 _ (ne_eqb 45 c (λ e. absurd (omega arith))) (decimal_avoids c l.variable low))

-- ---- literals
same_literal : (l m : Literal) → l.variable ≡ m.variable → l.positive ≡ m.positive → l ≡ m
same_literal l m e f =
    let one : l ≡ record { variable = m.variable; positive = l.positive } = ap (λ (v : ℕ). let r : Literal = record { variable = v; positive = l.positive } in r) e in
    one ∙ ap (λ (p : Bool). let r : Literal = record { variable = m.variable; positive = p } in r) f

abbrev signed : Bool → ℕ → List ℕ
signed positive n = cond positive (decimal n) (45 ∷ decimal n)

no_minus : (m n : ℕ) → 0 < n → n < 2 ^ 64 → 45 ∷ decimal m ≡ decimal n → ⊥
no_minus m n some small e =
    let first : 45 ≡ get_or (decimal n) 0 0 = ap (λ ds. get_or ds 0 0) e in
    omega (arith, first_decimal n some small, first)

signed_apart : (s t : Bool) (m n : ℕ) → 0 < m → m < 2 ^ 64 → 0 < n → n < 2 ^ 64 → signed s m ≡ signed t n → (m ≡ n) × (s ≡ t)
signed_apart true true m n a b c d e = (decimal_injective m n b d e, refl)
signed_apart true false m n a b c d e = absurd (no_minus n m a b (sym e))
signed_apart false true m n a b c d e = absurd (no_minus m n c d e)
signed_apart false false m n a b c d e = (let digits : decimal m ≡ decimal n = cc in decimal_injective m n b d digits, refl)

literal_apart : (v w : ℕ) (l m : Literal) → v < 2 ^ 64 → w < 2 ^ 64 → IsWithin v l → IsWithin w m → literal_text l ≡ literal_text m → l ≡ m
literal_apart v w l m a b h k e =
    let parts = signed_apart l.positive m.positive l.variable m.variable h.0 (omega arith) k.0 (omega arith) e in
    same_literal l m parts.0 parts.1

-- ---- lists
map_apart : {X Y : Type 0} (f : X → Y) (P Q : X → Type 0) → ((x y : X) → P x → Q y → f x ≡ f y → x ≡ y) → (xs ys : List X) → AllByRecursion P xs → AllByRecursion Q ys → map f xs ≡ map f ys → xs ≡ ys
map_apart f P Q apart [] [] a b e = refl
map_apart f P Q apart [] (y ∷ ys) a b e = cc
map_apart f P Q apart (x ∷ xs) [] a b e = cc
map_apart f P Q apart (x ∷ xs) (y ∷ ys) a b e =
    let head : f x ≡ f y = cc in
    let tail : map f xs ≡ map f ys = cc in
    let here : x ≡ y = apart x y a.0 b.0 head in
    let there : xs ≡ ys = map_apart f P Q apart xs ys a.1 b.1 tail in
    cc

-- ---- clauses
abbrev pub word : Literal → List ℕ
word l = literal_text l ++ 32 ∷ []

-- a clause's line without its line feed
abbrev pub body : List Literal → List ℕ
body c = flat_map word c ++ 48 ∷ []

body-cons : (l : Literal) (c : List Literal) → body (l ∷ c) ≡ literal_text l ++ 32 ∷ body c
body-cons l c = append_assoc (word l) (flat_map word c) (48 ∷ []) ∙ append_assoc (literal_text l) (32 ∷ []) (body c)

pub zero_avoids : (c : ℕ) → c < 45 → Avoids c (48 ∷ [])
zero_avoids c low = All-cons (λ b. (b == c) ≡ false) 48 [] (ne_eqb 48 c (λ e. absurd (omega arith))) (All-nil _)

pub body_avoids_lf : (c : List Literal) → Avoids 10 (body c)
body_avoids_lf [] = zero_avoids 10 (omega arith)
body_avoids_lf (l ∷ c) =
    subst (Avoids 10) (sym (body-cons l c))
    (All-append (λ b. (b == 10) ≡ false) (literal_text l) (32 ∷ body c) (literal_avoids 10 l (omega arith))
    (All-cons (λ b. (b == 10) ≡ false) 32 (body c) refl (body_avoids_lf c)))

abbrev is_space : ℕ → Bool
is_space b = b == 32

-- the words, where a space parts them, and no byte of theirs does
pub words_of_body : (parts : ℕ → Bool) → parts 32 ≡ true → ((l : Literal) → All (λ b. parts b ≡ false) (literal_text l)) → All (λ b. parts b ≡ false) (48 ∷ []) → (c : List Literal) → slice_split parts (body c) ≡ map literal_text c ++ (48 ∷ []) ∷ []
words_of_body parts space literals none [] = slice_split_none parts (48 ∷ []) none
words_of_body parts space literals none (l ∷ c) =
    ap (slice_split parts) (body-cons l c)
    ∙ slice_split_at parts (literal_text l) 32 (body c) (literals l) space
    ∙ ap (λ ws. literal_text l ∷ ws) (words_of_body parts space literals none c)

spaced : (c : List Literal) → slice_split is_space (body c) ≡ map literal_text c ++ (48 ∷ []) ∷ []
spaced c = words_of_body is_space refl (λ l. literal_avoids 32 l (omega arith)) (zero_avoids 32 (omega arith)) c

body_apart : (v w : ℕ) → v < 2 ^ 64 → w < 2 ^ 64 → (c d : List Literal) → AllByRecursion (IsWithin v) c → AllByRecursion (IsWithin w) d → body c ≡ body d → c ≡ d
body_apart v w a b c d h k e =
    let words = sym (spaced c) ∙ ap (slice_split is_space) e ∙ spaced d in
    map_apart literal_text (IsWithin v) (IsWithin w) (λ l m p q t. literal_apart v w l m a b p q t) c d h k
    (append_cancel_right (map literal_text c) (map literal_text d) ((48 ∷ []) ∷ []) words)

-- ---- all clauses
abbrev lines : List (List Literal) → List ℕ
lines cs = flat_map clause_text cs

pub clause_text-body : (c : List Literal) → clause_text c ≡ body c ++ 10 ∷ []
clause_text-body c = sym (append_assoc (flat_map word c) (48 ∷ []) (10 ∷ []))

bodies_of_lines : (cs : List (List Literal)) → slice_split is_lf (lines cs) ≡ map body cs ++ [] ∷ []
bodies_of_lines [] = refl
bodies_of_lines (c ∷ cs) =
    let joined : lines (c ∷ cs) ≡ body c ++ 10 ∷ lines cs = ap (λ t. t ++ lines cs) (clause_text-body c) ∙ append_assoc (body c) (10 ∷ []) (lines cs) in
    ap (slice_split is_lf) joined
    ∙ slice_split_at is_lf (body c) 10 (lines cs) (body_avoids_lf c) refl
    ∙ ap (λ ls. body c ∷ ls) (bodies_of_lines cs)

lines_apart : (v w : ℕ) → v < 2 ^ 64 → w < 2 ^ 64 → (cs ds : List (List Literal)) → AllByRecursion (AllByRecursion (IsWithin v)) cs → AllByRecursion (AllByRecursion (IsWithin w)) ds → lines cs ≡ lines ds → cs ≡ ds
lines_apart v w a b cs ds h k e =
    let bodies = sym (bodies_of_lines cs) ∙ ap (slice_split is_lf) e ∙ bodies_of_lines ds in
    map_apart body (AllByRecursion (IsWithin v)) (AllByRecursion (IsWithin w)) (body_apart v w a b) cs ds h k
    (append_cancel_right (map body cs) (map body ds) ([] ∷ []) bodies)

-- ---- the first line: its numbers end at a space and at the line feed
cut : (c : ℕ) (xs ys us vs : List ℕ) → Avoids c xs → Avoids c ys → xs ++ c ∷ us ≡ ys ++ c ∷ vs → (xs ≡ ys) × (us ≡ vs)
cut c xs ys us vs a b e =
    let is_c : ℕ → Bool = λ n. n == c in
    let parts = sym (slice_split_at is_c xs c us a (eq-eqb c c refl)) ∙ ap (slice_split is_c) e ∙ slice_split_at is_c ys c vs b (eq-eqb c c refl) in
    let same : xs ≡ ys = cc in
    let rest : c ∷ us ≡ c ∷ vs = append_cancel_left ys (c ∷ us) (c ∷ vs) (ap (λ l. l ++ c ∷ us) (sym same) ∙ e) in
    let tails : us ≡ vs = cc in
    (same, tails)

text-is : (f : Cnf) → text_of f ≡ codes "p cnf " ++ (decimal f.variables ++ 32 ∷ (decimal (length f.clauses) ++ 10 ∷ lines f.clauses))
unfolding text_of
text-is f =
    let v = decimal f.variables in
    let k = decimal (length f.clauses) in
    let p = codes "p cnf " in
    append_assoc (((p ++ v) ++ 32 ∷ []) ++ k) (10 ∷ []) (lines f.clauses)
    ∙ append_assoc ((p ++ v) ++ 32 ∷ []) k (10 ∷ lines f.clauses)
    ∙ append_assoc (p ++ v) (32 ∷ []) (k ++ 10 ∷ lines f.clauses)
    ∙ append_assoc p v (32 ∷ (k ++ 10 ∷ lines f.clauses))

text_parts : (f g : Cnf) → text_of f ≡ text_of g → (decimal f.variables ≡ decimal g.variables) × (lines f.clauses ≡ lines g.clauses)
text_parts f g e =
    let tail = append_cancel_left (codes "p cnf ") _ _ (sym (text-is f) ∙ e ∙ text-is g) in
    let first = cut 32 _ _ _ _ (decimal_avoids 32 f.variables (omega arith)) (decimal_avoids 32 g.variables (omega arith)) tail in
    let second = cut 10 _ _ _ _ (decimal_avoids 10 (length f.clauses) (omega arith)) (decimal_avoids 10 (length g.clauses) (omega arith)) first.1 in
    (first.0, second.1)

pub variables_apart : (f g : Cnf) → f.variables < 2 ^ 64 → g.variables < 2 ^ 64 → text_of f ≡ text_of g → f.variables ≡ g.variables
variables_apart f g a b e = decimal_injective f.variables g.variables a b (text_parts f g e).0

pub clauses_apart : (f g : Cnf) → IsInRange f → IsInRange g → f.variables < 2 ^ 64 → g.variables < 2 ^ 64 → text_of f ≡ text_of g → f.clauses ≡ g.clauses
clauses_apart f g h k a b e = lines_apart f.variables g.variables a b f.clauses g.clauses h k (text_parts f g e).1

pub text-parts : (f : Cnf) → text_of f ≡ header f.variables (length f.clauses) ++ lines f.clauses
unfolding text_of
text-parts f = refl
