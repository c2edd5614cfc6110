-- A whole text, as its bytes go out piece by piece.
use Rattle.dimacs.proofs.Prelude.{◌≡◌, ℕ, ◌+◌, ◌-◌, ◌≤◌, List, [], ◌∷◌, ◌++◌, length, take, drop, Option, Ok, Err, refl, sym, ap, ◌∙◌, subst, arith, take-add, drop-drop, take_all, append_assoc, length-append, length-drop, drop_at}
use Rattle.dimacs.proofs.Prelude.{take-append-le, flat_map, Literal, Cnf, header, clause_text, text_of, IsUnderWay, IsCutOff}
use Rattle.std.specs.Io.KnownBytes.{Appends}
use Rattle.std.proofs.KnownBytes.{Appends-trans, Appends-nil}
use Rattle.output.specs.declared.fault.WriteFault.{WriteFault}
use Rattle.output.specs.Sinks.{WritesFrom}
use Rattle.dimacs.proofs.Texts.{text-parts}

at_start : (b : Option (List ℕ)) (piece rest whole : List ℕ) → whole ≡ piece ++ rest → IsUnderWay b b 0 piece rest whole
at_start b piece rest whole e = record { within = omega arith; out = Appends-nil b; waits = e }

with_more : (a b : Option (List ℕ)) (written : ℕ) (piece more rest whole : List ℕ) → IsUnderWay a b written piece (more ++ rest) whole → IsUnderWay a b written (piece ++ more) rest whole
with_more a b written piece more rest whole h =
    record { within = h.within; out = h.out; waits = h.waits ∙ sym (append_assoc piece more rest) }

-- the bytes that wait stand behind those that went out
next_bytes : (written k : ℕ) (piece rest whole : List ℕ) → drop written whole ≡ piece ++ rest → k ≤ length piece → take written whole ++ take k piece ≡ take (written + k) whole
next_bytes written k piece rest whole e small =
    ap (λ l. take written whole ++ l) (sym (take-append-le k piece rest small) ∙ ap (take k) (sym e)) ∙ sym (take-add written k whole)

room_left : (written : ℕ) (piece rest whole : List ℕ) → written ≤ length whole → drop written whole ≡ piece ++ rest → written + length piece ≤ length whole
room_left written piece rest whole h e = omega (arith, ap length e, length-drop written whole, length-append piece rest)

pub flushed : (a b d : Option (List ℕ)) (written : ℕ) (piece rest whole : List ℕ) (n : ℕ) → IsUnderWay a b written piece rest whole → WritesFrom b d written piece (Ok n) → IsUnderWay a d n [] rest whole
flushed a b d written piece rest whole n h w =
    let all : take (length piece) piece ≡ piece = take_all (length piece) piece (omega arith) in
    let count : written + length piece ≡ n = sym w.ok.0 in
    let went : take written whole ++ piece ≡ take n whole =
    ap (λ l. take written whole ++ l) (sym all) ∙ next_bytes written (length piece) piece rest whole h.waits (omega arith) ∙ ap (λ k. take k whole) count in
    let left : drop n whole ≡ rest =
    ap (λ k. drop k whole) (sym count) ∙ sym (drop-drop (length piece) written whole) ∙ ap (drop (length piece)) h.waits ∙ drop_at piece rest (length piece) refl in
    record {
      within = omega (arith, room_left written piece rest whole h.within h.waits, w.ok.0);
      out = subst (Appends a d) went (Appends-trans a b d (take written whole) piece h.out w.ok.1);
      waits = left;
    }

pub cut_off : (a b d : Option (List ℕ)) (written : ℕ) (piece rest whole : List ℕ) (e : WriteFault) → IsUnderWay a b written piece rest whole → WritesFrom b d written piece (Err e) → IsCutOff a d e whole
cut_off a b d written piece rest whole e h w =
    let k : ℕ = e.written - written in
    let small : k ≤ length piece = omega (arith, w.err.0, w.err.1) in
    let count : written + k ≡ e.written = omega (arith, w.err.0) in
    let went : take written whole ++ take k piece ≡ take e.written whole = next_bytes written k piece rest whole h.waits small ∙ ap (λ j. take j whole) count in
    record {
      within = omega (arith, room_left written piece rest whole h.within h.waits, w.err.1);
      out = subst (Appends a d) went (Appends-trans a b d (take written whole) (take k piece) h.out w.err.2);
    }

pub all_out : (a b : Option (List ℕ)) (n : ℕ) (piece whole : List ℕ) → piece ≡ [] → IsUnderWay a b n piece [] whole → Appends a b whole
all_out a b n piece whole e h =
    let left : drop n whole ≡ [] = h.waits ∙ ap (λ p. p ++ []) e in
    let none : length whole ≤ n = omega (arith, ap length left, length-drop n whole) in
    subst (Appends a b) (take_all n whole none) h.out

-- the first line, and then one clause after another
pub begun : (b : Option (List ℕ)) (f : Cnf) (none piece : List ℕ) (variables count : ℕ) (left : List (List Literal)) → piece ≡ none ++ header variables count → none ≡ [] → variables ≡ f.variables → count ≡ length f.clauses → left ≡ f.clauses → IsUnderWay b b 0 piece (flat_map clause_text left) (text_of f)
begun b f none piece variables count left p n v k l =
    let first : piece ≡ header f.variables (length f.clauses) = p ∙ ap (λ q. q ++ header variables count) n ∙ ap (λ w. header w count) v ∙ ap (header f.variables) k in
    let whole : text_of f ≡ piece ++ flat_map clause_text left =
    text-parts f ∙ ap (λ q. q ++ flat_map clause_text f.clauses) (sym first) ∙ ap (λ cs. piece ++ flat_map clause_text cs) (sym l) in
    at_start b piece (flat_map clause_text left) (text_of f) whole

pub one_clause : (a b : Option (List ℕ)) (written : ℕ) (piece after : List ℕ) (clause : List Literal) (left rest : List (List Literal)) (whole : List ℕ) → left ≡ clause ∷ rest → after ≡ piece ++ clause_text clause → IsUnderWay a b written piece (flat_map clause_text left) whole → IsUnderWay a b written after (flat_map clause_text rest) whole
one_clause a b written piece after clause left rest whole e f h =
    let opened = subst (λ l. IsUnderWay a b written piece (flat_map clause_text l) whole) e h in
    subst (λ p. IsUnderWay a b written p (flat_map clause_text rest) whole) (sym f) (with_more a b written piece (clause_text clause) (flat_map clause_text rest) whole opened)

pub no_clause : (a b : Option (List ℕ)) (written : ℕ) (piece : List ℕ) (left : List (List Literal)) (whole : List ℕ) → left ≡ [] → IsUnderWay a b written piece (flat_map clause_text left) whole → IsUnderWay a b written piece [] whole
no_clause a b written piece left whole e h = subst (λ l. IsUnderWay a b written piece (flat_map clause_text l) whole) e h
