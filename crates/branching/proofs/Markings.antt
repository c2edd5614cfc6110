-- Marks that a view keeps, or does not.
use Rattle.branching.proofs.Prelude.{◌≡◌, ℕ, not, eqb, ◌&&◌, List, length, set, drop, Option, Some, None, refl, sym, ap, ◌∙◌, subst, arith, Vec, Global, lt-ltb, Edge, Choice, Polygraph, Graph, Side, bit_of, row_len, AreRowsOf, IsReduced}
use Rattle.branching.proofs.Prelude.{Keeps, MarksAll, AreMarked, AreKept, AreMarks, AreBlank, AreSaved, HaveRoom, HasBits, TakesSaved, AddsMarks, RemovesMark}
use Rattle.std.specs.Vec.{with_items}
use Rattle.branching.specs.declared.kept_marks.KeptMarks.{KeptMarks}
use Rattle.branching.specs.declared.kept_marks.Marks.{Marks}
use Rattle.branching.specs.declared.kept_marks.Marks.TheVariants.{Unkept, Kept}
use Rattle.branching.proofs.Opens.{open_within}
use Rattle.branching.proofs.Marked.{written_whole, marked_none, marked_more, marked_decided}

-- ---- what is kept
pub blank_is_right : (p : Polygraph) (sides : List (Option Side)) (edges : List Edge) (m : Marks) → IsReduced p → edges ≡ p.known → AreBlank p.nodes p.choices m → AreMarks p.nodes p.choices sides edges m
blank_is_right p sides edges Unkept reduced same b = tt
blank_is_right p sides edges (Kept k) reduced same b = record { incoming = b.incoming; marked = marked_none p sides edges k.bits.items reduced same b.len }

-- ---- bits that were written over others
abbrev pub rewritten : KeptMarks → List ℕ → Marks
rewritten k words = Kept (record { incoming = k.incoming; bits = with_items k.bits words })

items_written : (v : Vec ℕ Global) (words : List ℕ) → length words ≡ length v.items → (with_items v words).items ≡ words
items_written v words len = let o = v.ok.0 in written_whole v.len words (drop (length words) v.items) (omega (arith, len, o))

kept_rewritten : (n : ℕ) (choices : List Choice) (sides next : List (Option Side)) (edges others : List Edge) (k : KeptMarks) (words : List ℕ) → length words ≡ length k.bits.items
    → AreKept n choices sides edges k → AreMarked choices next others words → AreMarks n choices next others (rewritten k words)
kept_rewritten n choices sides next edges others k words len a m = record { incoming = a.incoming; marked = subst (AreMarked choices next others) (sym (items_written k.bits words len)) m }

pub mark_removed : (c : ℕ) (old : Marks) (k : KeptMarks) (words : List ℕ) → old ≡ Kept k → length words ≡ length k.bits.items → ((j : ℕ) → bit_of words j ≡ (not (eqb j c) && bit_of k.bits.items j))
    → RemovesMark c old (rewritten k words)
mark_removed c old k words is len bits = record {
  each = λ n choices sides edges side lt a.
      (let m : AreKept n choices sides edges k = subst (AreMarks n choices sides edges) is a in
      kept_rewritten n choices sides (set sides c (Some side)) edges edges k words len m
      (marked_decided choices sides (set sides c (Some side)) edges k.bits.items words c side lt refl len bits m.marked));
}

all_marked : (count : ℕ) (saved : Option (Vec ℕ Global)) (choices : List Choice) (next : List (Option Side)) (others : List Edge) (words : List ℕ) → length choices ≡ count → length next ≡ count
    → length words ≡ row_len count → HasBits count saved words → AreSaved choices next others saved → AreMarked choices next others words
all_marked count None choices next others words e f len bits s = record {
  len = len ∙ ap row_len (sym e);
  marked = λ c side free r. bits c ∙ lt-ltb c count (let lt = open_within next c free in omega (arith, lt, f));
}
all_marked count (Some v) choices next others words e f len bits s = subst (AreMarked choices next others) (sym bits) s

pub saved_taken : (count : ℕ) (saved : Option (Vec ℕ Global)) (old : Marks) (k : KeptMarks) (words : List ℕ) → old ≡ Kept k → HaveRoom count old → length words ≡ length k.bits.items → HasBits count saved words
    → TakesSaved count saved old (rewritten k words)
saved_taken count saved old k words is room len bits = record {
  each = λ n choices sides next edges others e f a s.
      (let m : AreKept n choices sides edges k = subst (AreMarks n choices sides edges) is a in
      let wide : length k.bits.items ≡ row_len count = subst (HaveRoom count) is room in
      kept_rewritten n choices sides next edges others k words len m (all_marked count saved choices next others words e f (len ∙ wide) bits s));
}

pub edge_marked : (rows : Graph) (e : Edge) (old : Marks) (k : KeptMarks) (words : List ℕ) (u v : ℕ) → old ≡ Kept k → u ≡ e.0 → v ≡ e.1 → Keeps k.bits.items words
    → ((graph : Graph) → AreRowsOf rows graph → MarksAll graph.edges u v k.incoming.items words) → AddsMarks rows e old (rewritten k words)
edge_marked rows e old k words u v is p q keeps all = record {
  each = λ n choices sides before after sided are more a.
      (let m : AreKept n choices sides before.edges k = subst (AreMarks n choices sides before.edges) is a in
      kept_rewritten n choices sides sides before.edges after.edges k words keeps.len m
      (marked_more rows before after choices sides n k.incoming.items k.bits.items words u v e.0 e.1 are m.incoming sided p q more keeps (all before are) m.marked));
}
