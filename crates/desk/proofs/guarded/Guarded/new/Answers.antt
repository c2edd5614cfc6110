use Rattle.desk.proofs.Prelude.{◌≡◌, ℕ, ◌+◌, List, [], length, Some, refl, sym, ap, ◌∙◌, subst, arith, slice_get, Entry, SeatRow, part_of, IsReached, opening_of, AreTied, names_of}
use Rattle.desk.proofs.Tied.{staying_le}
use Rattle.desk.proofs.Seating.{length-names_of, name_at}
use Rattle.desk.proofs.guarded.Guarded.new.Goals as goal

tied_first : {E R : Type 0} (names : List ℕ) (rows : List (SeatRow E R)) (history : List (Entry E R)) → names ≡ names_of rows → history ≡ [] → ((k : ℕ) (x : SeatRow E R) → slice_get rows k ≡ Some x → x.account.calls ≡ []) → AreTied names rows history
tied_first names rows history is none empty =
    (sym (ap length is ∙ length-names_of rows), (λ k x e. (ap (λ l. slice_get l k) is ∙ name_at rows k x e, empty k x e ∙ ap (part_of (k + 1)) (sym none))), (λ k d below. absurd (let n = ap length none in omega arith)))

pub invariant_of-result : goal.invariant_of-result
invariant_of-result g c =
    let r = c.requires in let empty = sym r.empty in (
      subst (λ h. IsReached g.M.Machine.next g.M.Machine.reply_at (opening_of c.args.opening.calls) h c.args.machine) empty (c.args.machine, r.opening.0, tt, refl),
      r.valid,
      tied_first g.J.Naming.names c.args.rows.items c.args.history.items r.names r.empty r.calls,
      let o = c.args.rows.ok in let few = staying_le c.args.rows.items in let room = r.room in omega arith,
      r.opening.1,
    )
