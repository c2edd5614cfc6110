-- Where the blocks of a log lie, and what their bytes are.
use Rattle.session_log.proofs.Prelude.{◌≡◌, ◌⊎◌, inl, inr, ℕ, ◌+◌, ◌-◌, ◌<◌, ◌≤◌, Bool, true, false, List, [], ◌∷◌, ◌++◌, length, take, refl, sym, ap, ◌∙◌, subst, arith, append_assoc, length-append, slice_range, ◌==◌, eqb, flat_map}
use Rattle.session_log.proofs.Prelude.{AllByRecursion, list_all, Contains, append-nil, take_at, drop_at, All-from_recursion, and_from, and_parts, not-true, not_from_false, eqb-true, lines, bytes_of, onto_line, is_session_line, IsBlock}
use Rattle.session_log.proofs.Prelude.{ends_block, onto_block, blocks, text_of, located, blocks_of, block_text, Block, header_text, first_line, version_of, body_of, Version}
use Rattle.session_log.proofs.Lines.{lines-nil, lines-cons, lines-cons_lf, is_other, lines_line}
use Rattle.session_log.proofs.Versions.{header_and_body, header_room}

-- lines as a text has them: only the last may lack its LF, and then it is not empty
abbrev pub AreLines : List (List ℕ × Bool) → Type 0
AreLines [] = Unit {0}
AreLines (l ∷ []) = (list_all is_other l.0 ≡ true) × ((l.1 ≡ true) ⊎ (0 < length l.0))
AreLines (l ∷ m ∷ ls) = (list_all is_other l.0 ≡ true) × (l.1 ≡ true) × AreLines (m ∷ ls)

-- the lines of a text are such
are_lf : (ls : List (List ℕ × Bool)) → AreLines ls → AreLines (([], true) ∷ ls)
are_lf [] h = (refl, inl refl)
are_lf (l ∷ ls) h = (refl, refl, h)

are_onto : (b : ℕ) (ls : List (List ℕ × Bool)) → is_other b ≡ true → AreLines ls → AreLines (onto_line b ls)
are_onto b [] e h = (and_from (is_other b) true e refl, inr (omega arith))
are_onto b (l ∷ []) e h = (and_from (is_other b) (list_all is_other l.0) e h.0, inr (omega arith))
are_onto b (l ∷ m ∷ ls) e h = (and_from (is_other b) (list_all is_other l.0) e h.0, h.1, h.2)

pub are_lines : (text : List ℕ) → AreLines (lines text)
are_lines [] = subst AreLines (sym lines-nil) tt
are_lines (b ∷ bs) = go (eqb b 10) refl (are_lines bs)
  where
    go : (t : Bool) → eqb b 10 ≡ t → AreLines (lines bs) → AreLines (lines (b ∷ bs))
    go true e h = subst AreLines (sym (lines-cons_lf b bs e)) (are_lf (lines bs) h)
    go false e h = subst AreLines (sym (lines-cons b bs e)) (are_onto b (lines bs) (not_from_false (b == 10) e) h)

-- their bytes are the text
bytes_onto : (b : ℕ) (ls : List (List ℕ × Bool)) → text_of (onto_line b ls) ≡ b ∷ text_of ls
bytes_onto b [] = refl
bytes_onto b (l ∷ ls) = refl

pub text_of_lines_is : (text : List ℕ) → text_of (lines text) ≡ text
text_of_lines_is [] = ap text_of lines-nil
text_of_lines_is (b ∷ bs) = go (eqb b 10) refl (text_of_lines_is bs)
  where
    go : (t : Bool) → eqb b 10 ≡ t → text_of (lines bs) ≡ bs → text_of (lines (b ∷ bs)) ≡ b ∷ bs
    go true e h = ap text_of (lines-cons_lf b bs e) ∙ (ap (λ x. 10 ∷ x) h ∙ ap (λ x. x ∷ bs) (sym (eqb-true b 10 e)))
    go false e h = ap text_of (lines-cons b bs e) ∙ (bytes_onto b (lines bs) ∙ ap (λ x. b ∷ x) h)

-- and such lines are those of their bytes
unended : (body : List ℕ) → list_all is_other body ≡ true → 0 < length body → lines body ≡ (body, false) ∷ []
unended [] h k = absurd (omega arith)
unended (b ∷ body) h k =
    let parts = and_parts (is_other b) (list_all is_other body) h in
    lines-cons b body (not-true (b == 10) parts.0) ∙ rest body parts.1 (unended body parts.1)
  where
    rest : (body : List ℕ) → list_all is_other body ≡ true → (0 < length body → lines body ≡ (body, false) ∷ []) → onto_line b (lines body) ≡ (b ∷ body, false) ∷ []
    rest [] h ih = ap (onto_line b) lines-nil
    rest (x ∷ xs) h ih = ap (onto_line b) (ih (omega arith))

one_line : (body : List ℕ) (ended : Bool) → list_all is_other body ≡ true → ((ended ≡ true) ⊎ (0 < length body)) → lines (text_of ((body, ended) ∷ [])) ≡ (body, ended) ∷ []
one_line body true h k = ap lines (append-nil (body ++ 10 ∷ [])) ∙ (lines_line body [] h ∙ ap (λ ls. (body, true) ∷ ls) lines-nil)
one_line body false h (inl e) = cc
one_line body false h (inr k) = ap lines (append-nil (body ++ []) ∙ append-nil body) ∙ unended body h k

first_of_lines : (body : List ℕ) (ended : Bool) (rest : List ℕ) → list_all is_other body ≡ true → ended ≡ true → lines (bytes_of (body, ended) ++ rest) ≡ (body, ended) ∷ lines rest
first_of_lines body true rest h e = ap lines (append_assoc body (10 ∷ []) rest) ∙ lines_line body rest h
first_of_lines body false rest h e = cc

pub lines_text_of : (ls : List (List ℕ × Bool)) → AreLines ls → lines (text_of ls) ≡ ls
lines_text_of [] h = lines-nil
lines_text_of (l ∷ []) h = one_line l.0 l.1 h.0 h.1
lines_text_of (l ∷ m ∷ ls) h = first_of_lines l.0 l.1 (text_of (m ∷ ls)) h.0 h.1 ∙ ap (λ x. l ∷ x) (lines_text_of (m ∷ ls) h.2)

-- the blocks of such lines
abbrev pub Good : List (List ℕ × Bool) → Type 0
Good g = IsBlock g × AreLines g

pub blocks_cons : (m : List ℕ × Bool) (ms : List (List ℕ × Bool)) → (g : List (List ℕ × Bool)) × (gs : List (List (List ℕ × Bool))) × (blocks (m ∷ ms) ≡ (m ∷ g) ∷ gs)
blocks_cons m ms = go (ends_block ms) refl (blocks ms) refl
  where
    go : (t : Bool) → ends_block ms ≡ t → (bs : List (List (List ℕ × Bool))) → blocks ms ≡ bs → (g : List (List ℕ × Bool)) × (gs : List (List (List ℕ × Bool))) × (blocks (m ∷ ms) ≡ (m ∷ g) ∷ gs)
    go true e bs f = ([], blocks ms, rw e refl)
    go false e [] f = ([], [], rw (e, f) refl)
    go false e (b ∷ bs) f = (b, bs, rw (e, f) refl)

good_one : (l : List ℕ × Bool) (ls : List (List ℕ × Bool)) → AreLines (l ∷ ls) → AreLines (l ∷ [])
good_one l [] h = h
good_one l (m ∷ ls) h = (h.0, inl h.1)

good_onto : (l m : List ℕ × Bool) (g : List (List ℕ × Bool)) (gs bs : List (List (List ℕ × Bool))) → bs ≡ (m ∷ g) ∷ gs → is_session_line m ≡ false → list_all is_other l.0 ≡ true → l.1 ≡ true → AllByRecursion Good bs → AllByRecursion Good (onto_block l bs)
good_onto l m g gs bs e s a b h =
    let old : AllByRecursion Good ((m ∷ g) ∷ gs) = rw e at h in
    subst (λ x. AllByRecursion Good (onto_block l x)) (sym e) (((s, old.0.0), (a, b, old.0.1)), old.1)

pub good_blocks : (ls : List (List ℕ × Bool)) → AreLines ls → AllByRecursion Good (blocks ls)
good_blocks [] h = tt
good_blocks (l ∷ []) h = ((tt, h), tt)
good_blocks (l ∷ m ∷ ls) h = go (is_session_line m) refl (good_blocks (m ∷ ls) h.2)
  where
    go : (t : Bool) → is_session_line m ≡ t → AllByRecursion Good (blocks (m ∷ ls)) → AllByRecursion Good (blocks (l ∷ m ∷ ls))
    go true e ih = subst (AllByRecursion Good) (sym (closed e)) ((tt, good_one l (m ∷ ls) h), ih)
      where
        closed : is_session_line m ≡ true → blocks (l ∷ m ∷ ls) ≡ (l ∷ []) ∷ blocks (m ∷ ls)
        closed e = rw e refl
    go false e ih =
        let b = blocks_cons m ls in
        let same : blocks (l ∷ m ∷ ls) ≡ onto_block l (blocks (m ∷ ls)) = rw e refl in
        subst (AllByRecursion Good) (sym same) (good_onto l m b.0 b.1 (blocks (m ∷ ls)) b.2 e h.0 h.1 ih)

text_onto : (l : List ℕ × Bool) (bs : List (List (List ℕ × Bool))) → flat_map text_of (onto_block l bs) ≡ bytes_of l ++ flat_map text_of bs
text_onto l [] = append_assoc (bytes_of l) [] []
text_onto l (b ∷ bs) = append_assoc (bytes_of l) (text_of b) (flat_map text_of bs)

pub text_blocks : (ls : List (List ℕ × Bool)) → flat_map text_of (blocks ls) ≡ text_of ls
text_blocks [] = refl
text_blocks (l ∷ ls) = go (ends_block ls) refl (text_blocks ls)
  where
    go : (t : Bool) → ends_block ls ≡ t → flat_map text_of (blocks ls) ≡ text_of ls → flat_map text_of (blocks (l ∷ ls)) ≡ text_of (l ∷ ls)
    go true e ih = rw e (append_assoc (bytes_of l) [] (flat_map text_of (blocks ls)) ∙ ap (λ x. bytes_of l ++ x) ih)
    go false e ih = rw e (text_onto l (blocks ls) ∙ ap (λ x. bytes_of l ++ x) ih)

-- where they lie

pub record Lies (text : List ℕ) (b : Block) : Type 0 where
  pub start : b.start ≤ b.stop
  pub stop : b.stop ≤ length text
  pub line : b.line ≤ b.start + 1
  pub block : IsBlock (lines (block_text text b))

pub middle : (front mid back : List ℕ) (a b : ℕ) → a ≡ length front → b ≡ length front + length mid → slice_range (front ++ (mid ++ back)) a b ≡ mid
middle front mid back a b e f =
    rw (e, f) (ap (take (length front + length mid - length front)) (drop_at front (mid ++ back) (length front) refl) ∙ take_at mid back (length front + length mid - length front) (omega arith))

line_some : (body : List ℕ) (ended : Bool) → ((ended ≡ true) ⊎ (0 < length body)) → 1 ≤ length (bytes_of (body, ended))
line_some body true h = simp length-append (omega arith)
line_some body false (inl e) = cc
line_some body false (inr k) = simp length-append (omega arith)

bytes_some : (ls : List (List ℕ × Bool)) → AreLines ls → length ls ≤ length (text_of ls)
bytes_some [] h = omega arith
bytes_some (l ∷ []) h =
    let some = line_some l.0 l.1 h.1 in
    let len = length-append (bytes_of l) [] in
    omega (arith, some, len)
bytes_some (l ∷ m ∷ ls) h =
    let some = line_some l.0 l.1 (inl h.1) in
    let later = bytes_some (m ∷ ls) h.2 in
    let len = length-append (bytes_of l) (text_of (m ∷ ls)) in
    omega (arith, some, later, len)

pub lies_all : (v : Version) (text front : List ℕ) (gs : List (List (List ℕ × Bool))) (at n : ℕ) → text ≡ front ++ flat_map text_of gs → at ≡ length front → n ≤ at + 1 → AllByRecursion Good gs → AllByRecursion (Lies text) (located v at n gs)
lies_all v text front [] at n e a m h = tt
lies_all v text front (g ∷ gs) at n e a m h =
    let len = length-append front (text_of g ++ flat_map text_of gs) in
    let len' = length-append (text_of g) (flat_map text_of gs) in
    let whole = ap length e in
    let some = bytes_some g h.0.1 in
    let next = length-append front (text_of g) in
    let slice : slice_range text at (at + length (text_of g)) ≡ text_of g =
    ap (λ t. slice_range t at (at + length (text_of g))) e ∙ middle front (text_of g) (flat_map text_of gs) at (at + length (text_of g)) a (omega (arith, a)) in (
      record {
        start = omega arith;
        stop = omega (arith, len, len', whole, a);
        line = m;
        block = subst IsBlock (sym (ap lines slice ∙ lines_text_of g h.0.1)) h.0.0;
      },
      lies_all v text (front ++ text_of g) gs (at + length (text_of g)) (n + length g) (e ∙ sym (append_assoc front (text_of g) (flat_map text_of gs))) (omega (arith, a, next)) (omega (arith, m, some)) h.1,
    )

pub lies : (text : List ℕ) (b : Block) → Contains (blocks_of text) b → Lies text b
unfolding blocks_of
lies text b h =
    let v = version_of text in
    let ls = lines (body_of text) in
    let all = lies_all v text (header_text v) (blocks ls) (length (header_text v)) (first_line v) (header_and_body text ∙ ap (λ bs. header_text v ++ bs) (sym (text_of_lines_is (body_of text)) ∙ sym (text_blocks ls))) refl (header_room v) (good_blocks ls (are_lines (body_of text))) in
    subst (Lies text) h.2 (All-from_recursion (Lies text) (located v (length (header_text v)) (first_line v) (blocks ls)) all h.0 b h.1)
