-- The blocks of a log, from left to right.
use Rattle.session_log.proofs.Prelude.{◌≡◌, ◌≢◌, ℕ, zero, suc, ◌+◌, ◌≤◌, Bool, true, false, cond, List, [], ◌∷◌, ◌++◌, length, nat_eq, Option, Some, None, refl, sym, ap, ◌∙◌, arith, codes, append_assoc, length-append, if◌then◌else◌}
use Rattle.session_log.proofs.Prelude.{count_by, from_bool, option_eq, append-nil, flat_map-append, lines, bytes_of, is_session_line, NoSessionLine, ends_block, blocks, text_of, located, blocks_of, session_limit_fault, fault_of_size}
use Rattle.session_log.proofs.Prelude.{eqb-true, eqb-false, le-ltb, lt-ltb, Block, header_text, first_line, version_of, body_of, Version, One, Two, Three}
use Rattle.std.proofs.lemmas.List.Sums.{sum_by-cons, sum_by-append}
use Rattle.session_log.specs.declared.fault.LogFault.TheVariants.{OverLimit}
use Rattle.session_log.specs.declared.fault.Limit.TheVariants.{Sessions}
use Rattle.session_log.proofs.Lines.{lines-nil, lines_line}
use Rattle.session_log.proofs.Versions.{header_lines}

-- from a line inside a block: the block that is open began at `start`, with line `line`; reading is at `at`, before line n
abbrev pub blocks_from : Version → ℕ → ℕ → ℕ → ℕ → List (List ℕ × Bool) → List Block
blocks_from v start line at n [] = record { version = v; start = start; stop = at; line = line } ∷ []
blocks_from v start line at n (l ∷ ls) =
    if is_session_line l then record { version = v; start = start; stop = at; line = line } ∷ blocks_from v at n (at + length (bytes_of l)) (n + 1) ls else
    blocks_from v start line (at + length (bytes_of l)) (n + 1) ls

-- a block is closed where another begins
pub blocks_open : (c : List ℕ × Bool) (cs ls : List (List ℕ × Bool)) → NoSessionLine cs → ends_block ls ≡ true → blocks (c ∷ cs ++ ls) ≡ (c ∷ cs) ∷ blocks ls
blocks_open c [] ls h e = rw e refl
blocks_open c (d ∷ ds) ls h e = rw (h.0, blocks_open d ds ls h.1 e) refl

no_more : (cs : List (List ℕ × Bool)) (l : List ℕ × Bool) → NoSessionLine cs → is_session_line l ≡ false → NoSessionLine (cs ++ l ∷ [])
no_more [] l h e = (e, tt)
no_more (c ∷ cs) l h e = (h.0, no_more cs l h.1 e)

text_more : (cs : List (List ℕ × Bool)) (l : List ℕ × Bool) → length (text_of (cs ++ l ∷ [])) ≡ length (text_of cs) + length (bytes_of l)
text_more cs l = ap length (flat_map-append bytes_of cs (l ∷ [])) ∙ (length-append (text_of cs) (bytes_of l ++ []) ∙ ap (λ x. length (text_of cs) + length x) (append-nil (bytes_of l)))

abbrev mk : Version → ℕ → ℕ → ℕ → Block
mk v start stop line = record { version = v; start = start; stop = stop; line = line }

abbrev FromIs : Version → List (List ℕ × Bool) → Type 0
FromIs v ls = (s k at n : ℕ) (c : List ℕ × Bool) (cs : List (List ℕ × Bool)) → NoSessionLine cs → at ≡ s + length (text_of (c ∷ cs)) → n ≡ k + length (c ∷ cs) → blocks_from v s k at n ls ≡ located v s k (blocks (c ∷ cs ++ ls))

from_nil : (v : Version) → FromIs v []
from_nil v s k at n c cs h e f = ap (λ x. mk v s x k ∷ []) e ∙ sym (ap (located v s k) (blocks_open c cs [] h refl))

from_cons : (v : Version) (l : List ℕ × Bool) (ls : List (List ℕ × Bool)) → FromIs v ls → (t : Bool) → is_session_line l ≡ t → FromIs v (l ∷ ls)
from_cons v l ls ih true i s k at n c cs h e f =
    let close : mk v s at k ∷ located v at n (blocks (l ∷ ls)) ≡ mk v s (s + length (text_of (c ∷ cs))) k ∷ located v (s + length (text_of (c ∷ cs))) (k + length (c ∷ cs)) (blocks (l ∷ ls)) =
    ap (λ x. mk v s x k ∷ located v x n (blocks (l ∷ ls))) e ∙ ap (λ y. mk v s (s + length (text_of (c ∷ cs))) k ∷ located v (s + length (text_of (c ∷ cs))) y (blocks (l ∷ ls))) f in
    let head : blocks_from v s k at n (l ∷ ls) ≡ mk v s at k ∷ blocks_from v at n (at + length (bytes_of l)) (n + 1) ls = rw i refl in
    let one : at + length (bytes_of l) ≡ at + length (text_of (l ∷ [])) = ap (λ x. at + length x) (sym (append-nil (bytes_of l))) in
    head ∙ (ap (λ r. mk v s at k ∷ r) (ih at n (at + length (bytes_of l)) (n + 1) l [] tt one refl) ∙ (close ∙ sym (ap (located v s k) (blocks_open c cs (l ∷ ls) h i))))
from_cons v l ls ih false i s k at n c cs h e f =
    let head : blocks_from v s k at n (l ∷ ls) ≡ blocks_from v s k (at + length (bytes_of l)) (n + 1) ls = rw i refl in
    let more = text_more (c ∷ cs) l in
    let counted = length-append cs (l ∷ []) in
    head ∙ (ih s k (at + length (bytes_of l)) (n + 1) c (cs ++ l ∷ []) (no_more cs l h i) (omega (arith, e, more)) (omega (arith, f, counted)) ∙ ap (λ x. located v s k (blocks (c ∷ x))) (append_assoc cs (l ∷ []) ls))

pub from_is : (v : Version) (ls : List (List ℕ × Bool)) → FromIs v ls
from_is v [] = from_nil v
from_is v (l ∷ ls) = from_cons v l ls (from_is v ls) (is_session_line l) refl

-- the first line, and then the others
pub start_blocks : (v : Version) (text : List ℕ) (l : List ℕ × Bool) (ls : List (List ℕ × Bool)) (start line at n : ℕ) → v ≡ version_of text → lines (body_of text) ≡ l ∷ ls → start ≡ length (header_text (version_of text)) → line ≡ first_line (version_of text) → at ≡ start + length (bytes_of l) → n ≡ line + 1 → blocks_from v start line at n ls ≡ blocks_of text
unfolding blocks_of
start_blocks v text l ls start line at n i e s f a b =
    let w = version_of text in
    ap (λ x. blocks_from x start line at n ls) i
    ∙ (from_is w ls start line at n l [] tt (omega (arith, a, ap length (append-nil (bytes_of l)))) (omega (arith, b))
    ∙ (ap (λ x. located w start line (blocks x)) (sym e)
    ∙ (ap (λ x. located w x line (blocks (lines (body_of text)))) s ∙ ap (λ x. located w (length (header_text w)) x (blocks (lines (body_of text)))) f)))

body_nothing : (text body : List ℕ) → 0 ≡ length body → body ≡ body_of text → body_of text ≡ []
body_nothing text [] e b = sym b
body_nothing text (x ∷ xs) e b = absurd (omega arith)

pub no_blocks : (text body : List ℕ) → 0 ≡ length body → body ≡ body_of text → [] ≡ blocks_of text
unfolding blocks_of
no_blocks text body e b = sym (ap (λ ls. located (version_of text) (length (header_text (version_of text))) (first_line (version_of text)) (blocks ls)) (ap lines (body_nothing text body e b) ∙ lines-nil))

-- one line more
pub block_ends : (v : Version) (s k at n : ℕ) (l : List ℕ × Bool) (ls rest : List (List ℕ × Bool)) (out out' : List Block) (whole : List Block) (at' n' : ℕ) → out ++ blocks_from v s k at n rest ≡ whole → rest ≡ l ∷ ls → is_session_line l ≡ true → out' ≡ out ++ mk v s at k ∷ [] → at' ≡ at + length (bytes_of l) → n' ≡ n + 1 → out' ++ blocks_from v at n at' n' ls ≡ whole
block_ends v s k at n l ls rest out out' whole at' n' h e i o a m =
    let head : blocks_from v s k at n (l ∷ ls) ≡ mk v s at k ∷ blocks_from v at n (at + length (bytes_of l)) (n + 1) ls = rw i refl in
    rw (o, a, m) (append_assoc out (mk v s at k ∷ []) (blocks_from v at n (at + length (bytes_of l)) (n + 1) ls) ∙ (ap (λ x. out ++ x) (sym head ∙ ap (blocks_from v s k at n) (sym e)) ∙ h))

pub block_goes_on : (v : Version) (s k at n : ℕ) (l : List ℕ × Bool) (ls rest : List (List ℕ × Bool)) (out : List Block) (whole : List Block) (at' n' : ℕ) → out ++ blocks_from v s k at n rest ≡ whole → rest ≡ l ∷ ls → is_session_line l ≡ false → at' ≡ at + length (bytes_of l) → n' ≡ n + 1 → out ++ blocks_from v s k at' n' ls ≡ whole
block_goes_on v s k at n l ls rest out whole at' n' h e i a m =
    let head : blocks_from v s k at n (l ∷ ls) ≡ blocks_from v s k (at + length (bytes_of l)) (n + 1) ls = rw i refl in
    rw (a, m) (ap (λ x. out ++ x) (sym head ∙ ap (blocks_from v s k at n) (sym e)) ∙ h)

pub blocks_end : (v : Version) (s k at n : ℕ) (rest : List ℕ) (out whole : List Block) → out ++ blocks_from v s k at n (lines rest) ≡ whole → 0 ≡ length rest → out ++ mk v s at k ∷ [] ≡ whole
unfolding lines
blocks_end v s k at n [] out whole h e = h
blocks_end v s k at n (b ∷ bs) out whole h e = absurd (omega arith)

pub count_end : (n m : ℕ) (rest : List ℕ) → n + count_by is_session_line (lines rest) ≡ m → 0 ≡ length rest → n ≡ m
unfolding lines
count_end n m [] h e = omega (arith, h)
count_end n m (b ∷ bs) h e = absurd (omega arith)

pub len_split : (text b r : List ℕ) → text ≡ b ++ r → length text ≡ length b + length r
len_split text b r e = ap length e ∙ length-append b r

-- the lines that begin with `session`
counted_cons : (l : List ℕ × Bool) (ls rest : List (List ℕ × Bool)) → rest ≡ l ∷ ls → count_by is_session_line rest ≡ cond (is_session_line l) 1 0 + count_by is_session_line ls
counted_cons l ls rest e = ap (count_by is_session_line) e ∙ sum_by-cons (λ l. cond (is_session_line l) 1 0) l ls

pub first_counted : (k : ℕ) (t : Bool) (l : List ℕ × Bool) (ls rest : List (List ℕ × Bool)) → k ≡ from_bool t → t ≡ is_session_line l → rest ≡ l ∷ ls → (k + count_by is_session_line ls ≡ count_by is_session_line rest) × (k ≤ 1)
first_counted k true l ls rest e f h = (ap (λ n. n + count_by is_session_line ls) e ∙ sym (counted_cons l ls rest h ∙ ap (λ t. cond t 1 0 + count_by is_session_line ls) (sym f)), omega (arith, e))
first_counted k false l ls rest e f h = (ap (λ n. n + count_by is_session_line ls) e ∙ sym (counted_cons l ls rest h ∙ ap (λ t. cond t 1 0 + count_by is_session_line ls) (sym f)), omega (arith, e))

pub session_counted : (n m : ℕ) (l : List ℕ × Bool) (ls rest : List (List ℕ × Bool)) → n + count_by is_session_line rest ≡ m → rest ≡ l ∷ ls → is_session_line l ≡ true → n + 1 + count_by is_session_line ls ≡ m
session_counted n m l ls rest h e i =
    let here : count_by is_session_line rest ≡ 1 + count_by is_session_line ls = counted_cons l ls rest e ∙ ap (λ t. cond t 1 0 + count_by is_session_line ls) i in
    omega (arith, h, here)

pub other_counted : (n m : ℕ) (l : List ℕ × Bool) (ls rest : List (List ℕ × Bool)) → n + count_by is_session_line rest ≡ m → rest ≡ l ∷ ls → is_session_line l ≡ false → n + count_by is_session_line ls ≡ m
other_counted n m l ls rest h e i =
    let here : count_by is_session_line rest ≡ 0 + count_by is_session_line ls = counted_cons l ls rest e ∙ ap (λ t. cond t 1 0 + count_by is_session_line ls) i in
    omega (arith, h, here)

-- the header has none
header_counted : (v : Version) → count_by is_session_line (lines (header_text v)) ≡ 0
header_counted One = ap (count_by is_session_line) lines-nil
header_counted Two = ap (count_by is_session_line) (lines_line (codes "log 2") [] refl ∙ ap (λ ls. (codes "log 2", true) ∷ ls) lines-nil)
header_counted Three = ap (count_by is_session_line) (lines_line (codes "log 3") [] refl ∙ ap (λ ls. (codes "log 3", true) ∷ ls) lines-nil)

pub counted_behind : (text body : List ℕ) → body ≡ body_of text → count_by is_session_line (lines text) ≡ count_by is_session_line (lines body)
counted_behind text body b =
    let v = version_of text in
    let all : count_by is_session_line (lines text) ≡ count_by is_session_line (lines (header_text v)) + count_by is_session_line (lines (body_of text)) = ap (count_by is_session_line) (header_lines text) ∙ sum_by-append (λ l. cond (is_session_line l) 1 0) (lines (header_text v)) (lines (body_of text)) in
    let none = header_counted v in
    let same = ap (λ bs. count_by is_session_line (lines bs)) b in
    omega (arith, all, none, same)

-- the limit on sessions
abbrev pub AreWithin : Option ℕ → ℕ → Type 0
AreWithin None n = Unit {0}
AreWithin (Some most) n = n ≤ most

none_within : (most : Option ℕ) → AreWithin most 0
none_within None = tt
none_within (Some m) = omega arith

pub first_within : (most : Option ℕ) (n : ℕ) → most ≢ Some 0 → n ≤ 1 → AreWithin most n
first_within None n h le = tt
first_within (Some zero) n h le = absurd (h refl)
first_within (Some (suc m)) n h le = omega (arith, le)

pub next_within : (most : Option ℕ) (n : ℕ) → AreWithin most n → option_eq nat_eq most (Some n) ≡ false → AreWithin most (n + 1)
next_within None n h e = tt
next_within (Some m) n h e = omega (arith, h, eqb-false m n e)

pub too_many : (most : Option ℕ) (text : List ℕ) (n m : ℕ) → n + 1 + m ≡ count_by is_session_line (lines text) → option_eq nat_eq most (Some n) ≡ true → session_limit_fault most text ≡ Some (OverLimit Sessions)
too_many None text n m h e = cc
too_many (Some most) text n m h e =
    let over = lt-ltb most (count_by is_session_line (lines text)) (omega (arith, h, eqb-true most n e)) in
    rw over refl

pub few_enough : (most : Option ℕ) (text rest : List ℕ) (n : ℕ) → n + count_by is_session_line (lines rest) ≡ count_by is_session_line (lines text) → AreWithin most n → 0 ≡ length rest → session_limit_fault most text ≡ None
few_enough None text rest n h few end = refl
few_enough (Some most) text rest n h few end =
    let counted = count_end n (count_by is_session_line (lines text)) rest h end in
    let under = le-ltb most (count_by is_session_line (lines text)) (omega (arith, counted, few)) in
    rw under refl

pub empty_fits : (bytes : ℕ) (most : Option ℕ) (text body : List ℕ) → length text ≤ bytes → 0 ≡ length body → body ≡ body_of text → fault_of_size bytes most text ≡ None
empty_fits bytes most text body small end b =
    rw (le-ltb bytes (length text) small) (few_enough most text body 0 (omega (arith, counted_behind text body b)) (none_within most) end)
