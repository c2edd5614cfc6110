-- A line more of a session that is being read.
use Rattle.session_log.proofs.Prelude.{◌≡◌, ℕ, zero, suc, ◌<◌, false, List, [], ◌∷◌, ◌++◌, map, Option, None, Some, Ok, refl, sym, ap, ◌∙◌, subst, arith, append_assoc, Vec, Global, flat_map, AllByRecursion, false≢true, append-nil}
use Rattle.session_log.proofs.Prelude.{map-append, flat_map-append, Transaction, op_line, end_line, txn_lines, view_txn, IsLegalLine, IsLegalMoment, IsLegalOp, IsLegalTxn, MayEndAt, IsKnown, IsKnownBeforeLast, HasNoMoments, is_earlier}
use Rattle.session_log.proofs.Prelude.{IsMoment, has_moments, Inside, after, place_at, open_lines, IsLegalOpen, AreEnded, Adds, Line, Op, Read, Write, Outcome, Commit, Abort, Unknown, OpenTxn, LineState, Reading, Version}
use Rattle.session_log.specs.declared.line.Line.TheVariants as line
use Rattle.session_log.specs.declared.parse.LineState.TheVariants as progress

pub all_more : {X : Type 0} (P : X → Type 0) (xs : List X) (x : X) → AllByRecursion P xs → P x → AllByRecursion P (xs ++ x ∷ [])
all_more P [] x h p = (p, tt)
all_more P (y ∷ ys) x h p = (h.0, all_more P ys x h.1 p)

known_last : (ts : List Transaction) (t : Transaction) → AllByRecursion IsKnown ts → IsKnownBeforeLast (ts ++ t ∷ [])
known_last [] t h = tt
known_last (s ∷ []) t h = (h.0, tt)
known_last (s ∷ u ∷ ts) t h = (h.0, known_last (u ∷ ts) t h.1)

-- `begin`
pub begun : (n : ℕ) (old : Reading) (form : Line) (new : Reading) (moment : Option ℕ) (ops : Vec Op Global) → old.progress ≡ progress.Between → form ≡ line.Begin moment → new.txns ≡ old.txns → new.progress ≡ progress.Inside (record { line = n; begun = moment; ops = ops }) → ops.items ≡ [] → Adds n old form new
begun n old form new moment ops p f t q e =
    let done : List Line = flat_map txn_lines (map view_txn old.txns.items) in
    record {
      place = rw (p, f, q) refl;
      lines = rw (p, f, t, q, e) (sym (ap (λ x. x ++ line.Begin moment ∷ []) (append-nil done)));
      legal = λ v h k.
          record {
            txns = rw t h.txns;
            current = rw (q, e) (tt, rw f at k);
            ended = rw (q, t) (rw p at h.ended);
            moments = λ without. rw t (h.moments without);
          };
    }

-- an operation
pub with_op : (n : ℕ) (old : Reading) (form : Line) (new : Reading) (t : OpenTxn) (ops : Vec Op Global) (o : Op) → old.progress ≡ progress.Inside t → form ≡ op_line o → after n (Inside t.line t.begun) (op_line o) ≡ Ok (Inside t.line t.begun) → ((v : Version) → IsLegalLine v (op_line o) → IsLegalOp o) → new.txns ≡ old.txns → new.progress ≡ progress.Inside (record { line = t.line; begun = t.begun; ops = ops }) → ops.items ≡ t.ops.items ++ o ∷ [] → Adds n old form new
with_op n old form new t ops o p f a lg same q e =
    let done : List Line = flat_map txn_lines (map view_txn old.txns.items) in
    record {
      place = rw (p, f, q) a;
      lines = rw (p, f, same, q, e) (ap (λ x. done ++ line.Begin t.begun ∷ x) (map-append op_line t.ops.items (o ∷ [])) ∙ sym (append_assoc done (line.Begin t.begun ∷ map op_line t.ops.items) (op_line o ∷ [])));
      legal = λ v h k.
          record {
            txns = rw same h.txns;
            current = let current : IsLegalOpen v (progress.Inside t) = rw p at h.current in
                rw (q, e) (all_more IsLegalOp t.ops.items o current.0 (lg v (rw f at k)), current.1);
            ended = rw (q, same) (rw p at h.ended);
            moments = λ without. rw same (h.moments without);
          };
    }

pub read_more : (n : ℕ) (old : Reading) (form : Line) (new : Reading) (t : OpenTxn) (ops : Vec Op Global) (key : List ℕ) (wid : ℕ) → old.progress ≡ progress.Inside t → form ≡ line.Read key wid → new.txns ≡ old.txns → new.progress ≡ progress.Inside (record { line = t.line; begun = t.begun; ops = ops }) → ops.items ≡ t.ops.items ++ Read key wid ∷ [] → Adds n old form new
read_more n old form new t ops key wid p f same q e = with_op n old form new t ops (Read key wid) p f refl (λ v k. k) same q e

after_write : (n b : ℕ) (begun : Option ℕ) (key : List ℕ) (wid : ℕ) → 0 < wid → after n (Inside b begun) (line.Write key wid) ≡ Ok (Inside b begun)
after_write n b begun key zero h = absurd (omega arith)
after_write n b begun key (suc w) h = refl

pub write_more : (n : ℕ) (old : Reading) (form : Line) (new : Reading) (t : OpenTxn) (ops : Vec Op Global) (key : List ℕ) (wid : ℕ) → old.progress ≡ progress.Inside t → form ≡ line.Write key wid → 0 < wid → new.txns ≡ old.txns → new.progress ≡ progress.Inside (record { line = t.line; begun = t.begun; ops = ops }) → ops.items ≡ t.ops.items ++ Write key wid ∷ [] → Adds n old form new
write_more n old form new t ops key wid p f some same q e = with_op n old form new t ops (Write key wid) p f (after_write n t.line t.begun key wid some) (λ v k. (k.0, some, k.1)) same q e

-- the end of a transaction
abbrev pub end_progress : Outcome → LineState
end_progress Commit = progress.Between
end_progress Abort = progress.Between
end_progress Unknown = progress.Over

progress_after : (n b : ℕ) (begun ended : Option ℕ) (o : Outcome) → is_earlier ended begun ≡ false → after n (Inside b begun) (end_line o ended) ≡ Ok (place_at (end_progress o))
progress_after n b begun ended Commit h = rw h refl
progress_after n b begun ended Abort h = refl
progress_after n b begun ended Unknown h = refl

none_open : (o : Outcome) → open_lines (end_progress o) ≡ []
none_open Commit = refl
none_open Abort = refl
none_open Unknown = refl

closed : (v : Version) (o : Outcome) → IsLegalOpen v (end_progress o)
closed v Commit = tt
closed v Abort = tt
closed v Unknown = tt

all_ended : (v : Version) (o : Outcome) (ended : Option ℕ) (ts : List Transaction) (t : Transaction) → t.outcome ≡ o → AllByRecursion IsKnown ts → IsLegalLine v (end_line o ended) → AreEnded v (end_progress o) (ts ++ t ∷ [])
all_ended v Commit ended ts t e h k = all_more IsKnown ts t h (rw e refl)
all_ended v Abort ended ts t e h k = all_more IsKnown ts t h (rw e refl)
all_ended v Unknown ended ts t e h k = (known_last ts t h, k)

pub moment_of : (v : Version) (moment : Option ℕ) → IsLegalMoment v moment → IsMoment moment
moment_of v None h = tt
moment_of v (Some m) h = h.0

pub none_stated : (v : Version) (moment : Option ℕ) → IsLegalMoment v moment → has_moments v ≡ false → moment ≡ None
none_stated v None h without = refl
none_stated v (Some m) h without = absurd (false≢true (sym without ∙ h.1))

end_moment : (v : Version) (o : Outcome) (ended : Option ℕ) → MayEndAt o ended → IsLegalLine v (end_line o ended) → IsLegalMoment v ended
end_moment v Commit ended told h = h
end_moment v Abort ended told h = subst (IsLegalMoment v) (sym told) tt
end_moment v Unknown ended told h = subst (IsLegalMoment v) (sym told) tt

pub ended : (n : ℕ) (old : Reading) (form : Line) (new : Reading) (t : OpenTxn) (o : Outcome) (end : Option ℕ) → MayEndAt o end → is_earlier end t.begun ≡ false → old.progress ≡ progress.Inside t → form ≡ end_line o end → new.progress ≡ end_progress o → new.txns.items ≡ old.txns.items ++ record { ops = t.ops; outcome = o; begun = t.begun; ended = end } ∷ [] → Adds n old form new
ended n old form new t o end told ordered p f q e =
    let done : List Line = flat_map txn_lines (map view_txn old.txns.items) in
    let last : Transaction = record { ops = t.ops.items; outcome = o; begun = t.begun; ended = end } in
    let all : map view_txn new.txns.items ≡ map view_txn old.txns.items ++ last ∷ [] = ap (map view_txn) e ∙ map-append view_txn old.txns.items (record { ops = t.ops; outcome = o; begun = t.begun; ended = end } ∷ []) in
    let lines_all : flat_map txn_lines (map view_txn new.txns.items) ≡ done ++ txn_lines last = ap (flat_map txn_lines) all ∙ (flat_map-append txn_lines (map view_txn old.txns.items) (last ∷ []) ∙ ap (λ x. done ++ x) (append-nil (txn_lines last))) in
    record {
      place = rw (p, f, q) (progress_after n t.line t.begun end o ordered);
      lines = rw (p, f, q, lines_all, none_open o) (append-nil (done ++ txn_lines last) ∙ sym (append_assoc done (line.Begin t.begun ∷ map op_line t.ops.items) (end_line o end ∷ [])));
      legal = λ v h k.
          let current : IsLegalOpen v (progress.Inside t) = rw p at h.current in
          let stated : IsLegalMoment v end = end_moment v o end told (rw f at k) in
          record {
            txns = rw all (all_more IsLegalTxn (map view_txn old.txns.items) last h.txns
                (record { ops = current.0; begun = moment_of v t.begun current.1; ended = moment_of v end stated; told = told; ordered = ordered }));
            current = rw q (closed v o);
            ended = rw (q, all) (all_ended v o end (map view_txn old.txns.items) last refl (rw p at h.ended) (rw f at k));
            moments = λ without. rw all (all_more HasNoMoments (map view_txn old.txns.items) last (h.moments without)
                (none_stated v t.begun current.1 without, none_stated v end stated without));
          };
    }
