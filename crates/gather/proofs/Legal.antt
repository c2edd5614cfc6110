-- What legal histories of the machine keep.
use Rattle.std.proofs.Common.{◌≡◌, ◌≢◌, ⊎_elim, ℕ, zero, suc, Bool, true, ◌&&◌, List, [], ◌∷◌, Option, Some, refl, sym, ap, ◌∙◌, subst, arith}
use Rattle.std.specs.Prelude.{slice_get, slice_set, if◌then◌else◌}
use Rattle.std.proofs.lemmas.Bool.{eqb-true, and_parts}
use Rattle.std.proofs.lemmas.Slice.Eq.{bytes_eq-Decides}
use Rattle.session_log.specs.Blocks.{blocks_of}
use Rattle.session_log.specs.declared.block.Block.{Block as Place}
use Rattle.session_log.specs.declared.version.Version.{Version}
use Rattle.desk.specs.declared.history.Entry.{Entry}
use Rattle.desk.specs.History.{entry, IsLegal}
use Rattle.desk.proofs.Tied.{get_set}
use Rattle.gather.specs.Pieces.{Piece, IsPiece, same_version, is_piece_of, is_piece}
use Rattle.gather.specs.Steps.{State, put_reply, next_of, reply_of}
use Rattle.gather.specs.Kept.{WasKept, AreKept}
use Rattle.gather.specs.declared.messages.BlockState.{BlockState}
use Rattle.gather.specs.declared.messages.GatherEvent.{GatherEvent}
use Rattle.gather.specs.declared.messages.GatherEvent.TheVariants.{Take, Put, Release}
use Rattle.gather.specs.declared.messages.GatherReply.{GatherReply}
use Rattle.gather.specs.declared.messages.GatherReply.TheVariants.{Double, Kept, Stranger}

log_same : (s : State) (seat : ℕ) (e : GatherEvent) → (next_of s seat e).log ≡ s.log
log_same s seat Take = refl
log_same s seat (Put k p) = refl
log_same s seat Release = refl

by_tests : (kept held fits : Bool) → (if kept then Double else (if held && fits then Kept else Stranger)) ≡ Kept → fits ≡ true
by_tests v0 held fits e = grind arith

-- only a piece of the block is kept
kept_fits : (seat : ℕ) (fits : Bool) (m : Option BlockState) → put_reply seat fits m ≡ Kept → fits ≡ true
kept_fits seat fits v2 e = grind (arith, by_tests)

version_is : (v w : Version) → same_version v w ≡ true → v ≡ w
version_is v0 v1 e = grind arith

piece_of : (log : List ℕ) (k : ℕ) (p : Piece) (o : Option Place) → slice_get (blocks_of log) k ≡ o → is_piece_of log p o ≡ true → IsPiece log k p
piece_of log k p v3 here e = grind (arith, and_parts, version_is, bytes_eq-Decides, eqb-true)

pub piece_where : (log : List ℕ) (k : ℕ) (p : Piece) → is_piece log k p ≡ true → IsPiece log k p
piece_where log k p e = piece_of log k p (slice_get (blocks_of log) k) refl e

kept_at : (s : State) (history : List (Entry GatherEvent GatherReply)) (n seat k : ℕ) (p : Piece) → IsLegal next_of reply_of s history → slice_get history n ≡ Some (entry seat (Put k p) Kept) → is_piece s.log k p ≡ true
kept_at s [] n seat k p legal e = absurd (cc)
kept_at s (x ∷ xs) zero seat k p legal e =
    let some : Some x ≡ Some (entry seat (Put k p) Kept) = e in
    let is : x ≡ entry seat (Put k p) Kept = cc in
    let answered : (entry seat (Put k p) Kept).reply ≡ reply_of s seat (Put k p) = subst (λ (y : Entry GatherEvent GatherReply). y.reply ≡ reply_of s y.seat y.event) is legal.0 in
    kept_fits seat (is_piece s.log k p) (slice_get s.marks k) (sym answered)
kept_at s (x ∷ xs) (suc n) seat k p legal e =
    ap (λ log. is_piece log k p) (sym (log_same s x.seat x.event)) ∙ kept_at (next_of s x.seat x.event) xs n seat k p legal.1 e

pub kept_pieces : (s : State) (history : List (Entry GatherEvent GatherReply)) → IsLegal next_of reply_of s history → (k : ℕ) (p : Piece) → WasKept history k p → IsPiece s.log k p
kept_pieces s history legal k p kept = piece_where s.log k p (kept_at s history kept.place kept.seat k p legal kept.here)

-- one step more of a history was looked at, and it kept a piece
pub kept_more : (history : List (Entry GatherEvent GatherReply)) (place : ℕ) (x : Entry GatherEvent GatherReply) (found now : List (Option Piece)) (k : ℕ) (p : Piece)
    → AreKept history found → slice_get history place ≡ Some x → x.event ≡ Put k p → x.reply ≡ Kept → now ≡ slice_set found k (Some p) → AreKept history now
kept_more history place x found now k p kept at event reply is = λ j q e. ⊎_elim
    (λ (h : (j ≡ k) × (Some q ≡ Some p)).
    let same : q ≡ p = cc in record {
      place = place;
      seat = x.seat;
      here = at ∙ ap Some (ap (λ e. entry x.seat e x.reply) event ∙ ap (λ r. entry x.seat (Put k p) r) reply ∙ ap (λ i. entry x.seat (Put i p) Kept) (sym h.0) ∙ ap (λ r. entry x.seat (Put j r) Kept) (sym same));
    })
    (λ (h : (j ≢ k) × (slice_get found j ≡ Some (Some q))). kept j q h.1)
    (get_set found k j (Some p) (Some q) (ap (λ l. slice_get l j) (sym is) ∙ e))
