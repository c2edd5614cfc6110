use Rattle.known_graph.proofs.Prelude.{◌≡◌, ℕ, ◌+◌, ◌*◌, List, length, drop, sym, ap, ◌∙◌, subst, take_at, row_len, marked_graph, IsMarked}
use Rattle.known_graph.proofs.Edges.{marked_nodes}
use Rattle.known_graph.proofs.bit_table.BitTable.copy_from.Goals as goal

pub copy_from_slice-requires : goal.copy_from_slice-requires
copy_from_slice-requires c =
    let mine = c.self.inside in
    let theirs = c.other.inside in
    let same : mine.nodes ≡ theirs.nodes = sym (marked_nodes mine.nodes mine.words.items) ∙ ap (λ g. g.nodes) c.self.view_is ∙ c.requires.nodes ∙ sym (ap (λ g. g.nodes) c.other.view_is) ∙ marked_nodes theirs.nodes theirs.words.items in
    ap (λ (l : List ℕ). length l) c.as_mut_slice.ensures.value ∙ c.self.invariant.places ∙ ap (λ n. (n + 1) * row_len n) same ∙ sym c.other.invariant.places ∙ sym (ap (λ (l : List ℕ). length l) c.deref.ensures.value)

pub invariant_of-self : goal.invariant_of-self
invariant_of-self c =
    let mine = c.self.inside in
    let theirs = c.other.inside in
    let new = c.copy_from_slice.new.self in
    let same : mine.nodes ≡ theirs.nodes = sym (marked_nodes mine.nodes mine.words.items) ∙ ap (λ g. g.nodes) c.self.view_is ∙ c.requires.nodes ∙ sym (ap (λ g. g.nodes) c.other.view_is) ∙ marked_nodes theirs.nodes theirs.words.items in
    let taken = take_at new (drop (length new) mine.words.items) mine.words.len (c.copy_from_slice.ensures.len ∙ c.as_mut_slice.ensures.len) in
    subst (IsMarked mine.nodes) (sym taken) (subst (λ n. IsMarked n new) (sym same) (subst (IsMarked theirs.nodes) (sym (c.copy_from_slice.ensures.after ∙ c.deref.ensures.value)) c.other.invariant))

pub returns : goal.returns
returns c =
    let mine = c.self.inside in
    let theirs = c.other.inside in
    let new = c.copy_from_slice.new.self in
    let same : mine.nodes ≡ theirs.nodes = sym (marked_nodes mine.nodes mine.words.items) ∙ ap (λ g. g.nodes) c.self.view_is ∙ c.requires.nodes ∙ sym (ap (λ g. g.nodes) c.other.view_is) ∙ marked_nodes theirs.nodes theirs.words.items in
    let taken = take_at new (drop (length new) mine.words.items) mine.words.len (c.copy_from_slice.ensures.len ∙ c.as_mut_slice.ensures.len) in
    record { same = ap (marked_graph mine.nodes) (taken ∙ c.copy_from_slice.ensures.after ∙ c.deref.ensures.value) ∙ ap (λ n. marked_graph n theirs.words.items) same ∙ c.other.view_is }
