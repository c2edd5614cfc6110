-- What the blocks of a log say of the log.
use Rattle.session_log.proofs.Prelude.{◌≡◌, ℕ, ◌+◌, Bool, true, false, List, [], ◌∷◌, ◌++◌, length, map, Option, Some, None, Result, Ok, Err, refl, sym, ap, ◌∙◌, subst, arith, append_assoc, length-append, slice_range, codes, nat_eq}
use Rattle.session_log.proofs.Prelude.{flat_map, AllByRecursion, starts_with, Contains, All-from_recursion, option_or, lines, form_of, ClientSession, line_text, session_text, log_text, Place, Start, Between, Inside, Over, first_fault}
use Rattle.session_log.proofs.Prelude.{fault_at_end, going_on, step, after_form, grammar_fault, is_session_line, ends_block, blocks, text_of, located, blocks_of, block_text, block_fault, first_of, Line, header_text, first_line, version_of}
use Rattle.session_log.proofs.Prelude.{body_of, Block, Version, LogFault}
use Rattle.session_log.specs.declared.line.Line.TheVariants as line
use Rattle.session_log.proofs.Versions.{header_and_body}
use Rattle.session_log.proofs.Forms.{form_sound}
use Rattle.session_log.proofs.Lying.{Good, middle, text_of_lines_is, text_blocks, good_blocks, are_lines, lines_text_of, blocks_cons}

-- the bytes of the blocks
texts_are : (v : Version) (text front : List ℕ) (gs : List (List (List ℕ × Bool))) (at n : ℕ) → text ≡ front ++ flat_map text_of gs → at ≡ length front → map (block_text text) (located v at n gs) ≡ map text_of gs
texts_are v text front [] at n e a = refl
texts_are v text front (g ∷ gs) at n e a =
    let next = length-append front (text_of g) in
    let slice : slice_range text at (at + length (text_of g)) ≡ text_of g =
    ap (λ t. slice_range t at (at + length (text_of g))) e ∙ middle front (text_of g) (flat_map text_of gs) at (at + length (text_of g)) a (omega (arith, a)) in
    cc (slice, texts_are v text (front ++ text_of g) gs (at + length (text_of g)) (n + length g) (e ∙ sym (append_assoc front (text_of g) (flat_map text_of gs))) (omega (arith, a, next)))

whole : (text : List ℕ) → text ≡ header_text (version_of text) ++ flat_map text_of (blocks (lines (body_of text)))
whole text = header_and_body text ∙ ap (λ bs. header_text (version_of text) ++ bs) (sym (text_of_lines_is (body_of text)) ∙ sym (text_blocks (lines (body_of text))))

pub block_texts : (text : List ℕ) → map (block_text text) (blocks_of text) ≡ map text_of (blocks (lines (body_of text)))
unfolding blocks_of
block_texts text = texts_are (version_of text) text (header_text (version_of text)) (blocks (lines (body_of text))) (length (header_text (version_of text))) (first_line (version_of text)) (whole text) refl

flat_one : {X : Type 0} (f : X → List ℕ) (xs : List X) → flat_map f xs ≡ flat_map (λ (x : List ℕ). x) (map f xs)
flat_one f [] = refl
flat_one f (x ∷ xs) = ap (λ r. f x ++ r) (flat_one f xs)

pub joined : (text : List ℕ) (ss : List ClientSession) → map (block_text text) (blocks_of text) ≡ map session_text ss → text ≡ log_text (version_of text) ss
unfolding log_text
joined text ss h =
    whole text ∙ ap (λ bs. header_text (version_of text) ++ bs) (flat_one text_of (blocks (lines (body_of text))) ∙ (ap (flat_map (λ (x : List ℕ). x)) (sym (block_texts text) ∙ h) ∙ sym (flat_one session_text ss)))

-- and each has the log's version
all_version : (v : Version) (at n : ℕ) (gs : List (List (List ℕ × Bool))) → AllByRecursion (λ (b : Block). b.version ≡ v) (located v at n gs)
all_version v at n [] = tt
all_version v at n (g ∷ gs) = (refl, all_version v (at + length (text_of g)) (n + length g) gs)

pub block_version : (text : List ℕ) (b : Block) → Contains (blocks_of text) b → b.version ≡ version_of text
unfolding blocks_of
block_version text b h =
    let v = version_of text in
    let gs = blocks (lines (body_of text)) in
    subst (λ (x : Block). x.version ≡ v) h.2 (All-from_recursion (λ (x : Block). x.version ≡ v) (located v (length (header_text v)) (first_line v) gs) (all_version v (length (header_text v)) (first_line v) gs) h.0 b h.1)

-- a line that begins with `session` has a session's form or none
other_starts : (body : List ℕ) (f : Line) → body ≡ line_text f → starts_with nat_eq body (codes "session") ≡ true → (k : ℕ) × (f ≡ line.Session k)
unfolding line_text
other_starts body (line.Session k) e h = (k, refl)
other_starts body (line.Begin m) e h = absurd (let x = rw e at h in cc)
other_starts body (line.Read k n) e h = absurd (let x = rw e at h in cc)
other_starts body (line.Write k n) e h = absurd (let x = rw e at h in cc)
other_starts body (line.Commit m) e h = absurd (let x = rw e at h in cc)
other_starts body line.Abort e h = absurd (let x = rw e at h in cc)
other_starts body line.Unknown e h = absurd (let x = rw e at h in cc)

-- no transaction is open there
abbrev IsBetween : Place → Type 0
IsBetween Between = Unit {0}
IsBetween Over = Unit {0}
IsBetween _ = ⊥

same_session : (n k : ℕ) (p : Place) → IsBetween p → after_form n p (Some (line.Session k)) ≡ after_form n Start (Some (line.Session k))
same_session n k Start i = absurd i
same_session n k Between i = refl
same_session n k (Inside b begun) i = absurd i
same_session n k Over i = refl

same_after : (v : Version) (n : ℕ) (p : Place) (body : List ℕ) (o : Option Line) → IsBetween p → form_of v body ≡ o → starts_with nat_eq body (codes "session") ≡ true → after_form n p o ≡ after_form n Start o
same_after v n p body None i e h = refl
same_after v n p body (Some f) i e h =
    let k = other_starts body f (form_sound v body f e).0 h in
    rw k.1 (same_session n k.0 p i)

same_step : (v : Version) (n : ℕ) (p : Place) (l : List ℕ × Bool) → IsBetween p → is_session_line l ≡ true → step v n p l ≡ step v n Start l
unfolding step
same_step v n Start l i h = absurd i
same_step v n (Inside b begun) l i h = absurd i
same_step v n Between (body, true) i h = same_after v n Between body (form_of v body) i refl h
same_step v n Between (body, false) i h = refl
same_step v n Over (body, true) i h = same_after v n Over body (form_of v body) i refl h
same_step v n Over (body, false) i h = refl

-- where another block begins, what is left is read as at the start
at_block : (v : Version) (n m : ℕ) (p : Place) (rest : List (List ℕ × Bool)) → n ≡ m → ends_block rest ≡ true → first_fault v n p rest ≡ option_or (fault_at_end p) (first_fault v m Start rest)
unfolding step
at_block v n m Start [] e h = refl
at_block v n m Between [] e h = refl
at_block v n m (Inside b begun) [] e h = refl
at_block v n m Over [] e h = refl
at_block v n m Start (l ∷ ls) e h = ap (λ k. first_fault v k Start (l ∷ ls)) e
at_block v n m Between (l ∷ ls) e h = ap (λ r. going_on r (λ q. first_fault v (n + 1) q ls)) (same_step v n Between l tt h) ∙ ap (λ k. first_fault v k Start (l ∷ ls)) e
at_block v n m Over (l ∷ ls) e h = ap (λ r. going_on r (λ q. first_fault v (n + 1) q ls)) (same_step v n Over l tt h) ∙ ap (λ k. first_fault v k Start (l ∷ ls)) e
at_block v n m (Inside b begun) (l ∷ ls) e h = rw h refl

-- the faults of the blocks, the first of which begins with line n
abbrev later : Version → ℕ → List (List (List ℕ × Bool)) → Option LogFault
later v n [] = None
later v n (g ∷ gs) = option_or (first_fault v n Start g) (later v (n + length g) gs)

abbrev from_place : Version → ℕ → Place → List (List (List ℕ × Bool)) → Option LogFault
from_place v n p [] = fault_at_end p
from_place v n p (g ∷ gs) = option_or (first_fault v n p g) (later v (n + length g) gs)

later_start : (v : Version) (n : ℕ) (gs : List (List (List ℕ × Bool))) → from_place v n Start gs ≡ later v n gs
later_start v n [] = refl
later_start v n (g ∷ gs) = refl

or_going : (r : Result Place LogFault) (f : Place → Option LogFault) (o : Option LogFault) → going_on r (λ q. option_or (f q) o) ≡ option_or (going_on r f) o
or_going (Ok q) f o = refl
or_going (Err x) f o = refl

or_on : (r : Result Place LogFault) (f g : Place → Option LogFault) → ((q : Place) → f q ≡ g q) → going_on r f ≡ going_on r g
or_on (Ok q) f g h = h q
or_on (Err x) f g h = refl

by_blocks : (v : Version) (ls : List (List ℕ × Bool)) (n : ℕ) (p : Place) → first_fault v n p ls ≡ from_place v n p (blocks ls)
by_blocks v [] n p = refl
by_blocks v (l ∷ ls) n p = go (ends_block ls) refl (by_blocks v ls) (blocks ls) refl
  where
    go : (t : Bool) → ends_block ls ≡ t → ((m : ℕ) (q : Place) → first_fault v m q ls ≡ from_place v m q (blocks ls)) → (bs : List (List (List ℕ × Bool))) → blocks ls ≡ bs → first_fault v n p (l ∷ ls) ≡ from_place v n p (blocks (l ∷ ls))
    go true e ih bs f =
        let closed : blocks (l ∷ ls) ≡ (l ∷ []) ∷ blocks ls = rw e refl in
        or_on (step v n p l) (λ q. first_fault v (n + 1) q ls) (λ q. option_or (fault_at_end q) (later v (n + length (l ∷ [])) (blocks ls)))
        (λ q. at_block v (n + 1) (n + 1) q ls refl e ∙ ap (option_or (fault_at_end q)) (ih (n + 1) Start ∙ (later_start v (n + 1) (blocks ls) ∙ ap (λ k. later v k (blocks ls)) (counted n))))
        ∙ (or_going (step v n p l) fault_at_end (later v (n + length (l ∷ [])) (blocks ls)) ∙ ap (from_place v n p) (sym closed))
      where
        counted : (n : ℕ) → n + 1 ≡ n + length (l ∷ [])
        counted n = omega arith
    go false e ih [] f = absurd (none ls e f)
      where
        none : (ls : List (List ℕ × Bool)) → ends_block ls ≡ false → blocks ls ≡ [] → ⊥
        none [] e f = cc
        none (m ∷ ms) e f = let b = blocks_cons m ms in cc (b.2, f)
    go false e ih (g ∷ gs) f =
        let grown : blocks (l ∷ ls) ≡ (l ∷ g) ∷ gs = rw (e, f) refl in
        or_on (step v n p l) (λ q. first_fault v (n + 1) q ls) (λ q. option_or (first_fault v (n + 1) q g) (later v (n + length (l ∷ g)) gs))
        (λ q. ih (n + 1) q ∙ (ap (from_place v (n + 1) q) f ∙ ap (λ k. option_or (first_fault v (n + 1) q g) (later v k gs)) (counted n)))
        ∙ (or_going (step v n p l) (λ q. first_fault v (n + 1) q g) (later v (n + length (l ∷ g)) gs) ∙ ap (from_place v n p) (sym grown))
      where
        counted : (n : ℕ) → n + 1 + length g ≡ n + length (l ∷ g)
        counted n = omega arith

-- the same of the blocks as they lie
or_first : (o : Option LogFault) (rest : List (Option LogFault)) → first_of (o ∷ rest) ≡ option_or o (first_of rest)
or_first None rest = refl
or_first (Some f) rest = refl

block_faults : (v : Version) (text front : List ℕ) (gs : List (List (List ℕ × Bool))) (at n : ℕ) → text ≡ front ++ flat_map text_of gs → at ≡ length front → AllByRecursion Good gs → first_of (map (block_fault text) (located v at n gs)) ≡ later v n gs
block_faults v text front [] at n e a h = refl
block_faults v text front (g ∷ gs) at n e a h =
    let next = length-append front (text_of g) in
    let slice : slice_range text at (at + length (text_of g)) ≡ text_of g =
    ap (λ t. slice_range t at (at + length (text_of g))) e ∙ middle front (text_of g) (flat_map text_of gs) at (at + length (text_of g)) a (omega (arith, a)) in
    let here : first_fault v n Start (lines (slice_range text at (at + length (text_of g)))) ≡ first_fault v n Start g = ap (first_fault v n Start) (ap lines slice ∙ lines_text_of g h.0.1) in
    let rest = block_faults v text (front ++ text_of g) gs (at + length (text_of g)) (n + length g) (e ∙ sym (append_assoc front (text_of g) (flat_map text_of gs))) (omega (arith, a, next)) h.1 in
    or_first (first_fault v n Start (lines (slice_range text at (at + length (text_of g))))) (map (block_fault text) (located v (at + length (text_of g)) (n + length g) gs)) ∙ (ap (λ o. option_or o (first_of (map (block_fault text) (located v (at + length (text_of g)) (n + length g) gs)))) here ∙ ap (option_or (first_fault v n Start g)) rest)

pub fault_by_blocks : (text : List ℕ) → grammar_fault text ≡ first_of (map (block_fault text) (blocks_of text))
unfolding blocks_of grammar_fault
fault_by_blocks text =
    let v = version_of text in
    let ls = lines (body_of text) in
    by_blocks v ls (first_line v) Start ∙ (later_start v (first_line v) (blocks ls) ∙ sym (block_faults v text (header_text v) (blocks ls) (length (header_text v)) (first_line v) (whole text) refl (good_blocks ls (are_lines (body_of text)))))
