-- What is said of resolved sessions is said of those that they come from.
use Rattle.judging.proofs.Prelude.{◌≡◌, Bool, List, Vec, map, refl, sym, ◌∙◌, subst, Result, Ok, Err, IfOk, AllByRecursion, Global, ClientSession, IsLegal, view, Log, resolved, IsSoundLog, IsLog, IsPart, IsOpenHistory, IsReduceFault}
use Rattle.judging.proofs.Prelude.{Unknown, IsSearched, chosen, IsOver, Level, Serializable, Snapshot, Prefix, Below, JudgeMeans, Why, Spent, TooLarge, TooManyChoices, NoRoom, NotBegun, NotShown, Tried, IsRefutedLog, IsUndecidedBy, IsTried}
use Rattle.judging.proofs.Prelude.{IsVerdict, IsMadeOf, IsMade, IsToldPart, IsSaid, IsTriedOf, of_serial}
use Rattle.log_definitions.proofs.Members.{each_weaker}
use Rattle.prune_ledger.specs.Pruned.{Remainder}
use Rattle.serializability.specs.Polygraph.{Polygraph}
use Rattle.reduction.specs.Chained.{HasItsOrders, IsUnpruned}
use Rattle.polygraph.specs.declared.fault.PolyFault.TheVariants as poly_fault
use Rattle.judging.specs.declared.judged.Tried.TheVariants.{Nothing, NotSerial, PartSerial, PartOpen}
use Rattle.judging.specs.declared.judged.RefutedPart.{RefutedPart}
use Rattle.judging.specs.declared.judged.Verdict.{Verdict}
use Rattle.judging.specs.declared.judged.Verdict.TheVariants as verdict
use Rattle.judging.proofs.Resolved.{twice, known, serial_resolved, serial_of_resolved, log_resolved}
use Rattle.level_laws.specs.declared.level.Level.{Level as BelowLevel}
use Rattle.judging.proofs.Levels.{bare_resolved, judged_resolved, room_resolved, order_of_resolved, none_at_part, not_below}
use Rattle.judging.proofs.Shorter.{over_resolved}
use Rattle.judging.proofs.Parts.{part_log, part_itself, chosen_part}

-- ---- undecided
orders_of_resolved : (ss : List ClientSession) (p : Polygraph) → HasItsOrders (resolved ss) p → HasItsOrders ss p
orders_of_resolved ss p h = record { each = λ order. ((λ s. (h.each order).0 (serial_resolved ss order s)), λ f. serial_of_resolved ss order ((h.each order).1 f)) }

open_of_resolved : (ss : List ClientSession) (left : Remainder) → IsOpenHistory (resolved ss) left → IsOpenHistory ss left
open_of_resolved ss left h = record {
  poly = h.poly;
  unpruned = subst (λ (log : Log). IsUnpruned log h.poly) (log_resolved ss) h.unpruned;
  left = h.left;
  orders = orders_of_resolved ss left.poly h.orders;
}

undecided_serial : (m : JudgeMeans) (ss : List ClientSession) (why : Why) → AllByRecursion IsLegal ss → IsUndecidedBy (of_serial m) (resolved ss) why → IsUndecidedBy (of_serial m) ss why
undecided_serial m ss (Spent closed) legal h = (h.0, record { left = h.1.left; history = open_of_resolved ss h.1.left h.1.history; ran = h.1.ran })
undecided_serial m ss (TooLarge which) legal h = over_resolved ss which legal h
undecided_serial m ss TooManyChoices legal h = rw (sym (log_resolved ss)) h
undecided_serial m ss (NoRoom why) legal h = cc
undecided_serial m ss NotBegun legal h = h
undecided_serial m ss NotShown legal h = absurd (not_below h.0 h.1)

-- so it is below, where the log itself is judged too
undecided_below : (m : JudgeMeans) (below : BelowLevel) (ss : List ClientSession) (why : Why) → AllByRecursion IsLegal ss → IsUndecidedBy (record m { level = Below below }) (resolved ss) why → IsUndecidedBy (record m { level = Below below }) ss why
undecided_below m below ss (Spent closed) legal h = undecided_serial m ss (Spent closed) legal h
undecided_below m below ss (TooLarge which) legal h = undecided_serial m ss (TooLarge which) legal h
undecided_below m below ss TooManyChoices legal h = undecided_serial m ss TooManyChoices legal h
undecided_below m below ss (NoRoom why) legal h = cc
undecided_below m below ss NotBegun legal h = h
undecided_below m below ss NotShown legal h = h

undecided_snapshot : (m : JudgeMeans) (ss : List ClientSession) (why : Why) → IsUndecidedBy (record m { level = Snapshot }) (resolved ss) why → IsUndecidedBy (record m { level = Snapshot }) ss why
undecided_snapshot m ss (Spent closed) h = (h.0, subst (λ l. IsSearched m.deciding.budget l (Unknown closed)) (judged_resolved ss) h.1)
undecided_snapshot m ss (TooLarge which) h = subst (λ l. IsOver l which) (judged_resolved ss) h
undecided_snapshot m ss TooManyChoices h = subst (λ l. IsReduceFault l poly_fault.TooManyChoices) (judged_resolved ss) h
undecided_snapshot m ss (NoRoom why) h = (h.0, sym (room_resolved ss) ∙ h.1)
undecided_snapshot m ss NotBegun h = h
undecided_snapshot m ss NotShown h = cc

undecided_prefix : (m : JudgeMeans) (ss : List ClientSession) (why : Why) → IsUndecidedBy (record m { level = Prefix }) (resolved ss) why → IsUndecidedBy (record m { level = Prefix }) ss why
undecided_prefix m ss (Spent closed) h = (h.0, subst (λ l. IsSearched m.deciding.budget l (Unknown closed)) (bare_resolved ss) h.1)
undecided_prefix m ss (TooLarge which) h = subst (λ l. IsOver l which) (bare_resolved ss) h
undecided_prefix m ss TooManyChoices h = subst (λ l. IsReduceFault l poly_fault.TooManyChoices) (bare_resolved ss) h
undecided_prefix m ss (NoRoom why) h = cc
undecided_prefix m ss NotBegun h = h
undecided_prefix m ss NotShown h = cc

abbrev IsUndecidedAt : JudgeMeans → List ClientSession → Why → Level → Type 0
IsUndecidedAt m ss why level = IsUndecidedBy (record m { level = level }) ss why

pub undecided_of_resolved : (m : JudgeMeans) (ss : List ClientSession) (why : Why) → AllByRecursion IsLegal ss → IsUndecidedBy m (resolved ss) why → IsUndecidedBy m ss why
undecided_of_resolved m ss why legal h = go m.level refl
  where
    go : (level : Level) → m.level ≡ level → IsUndecidedBy m ss why
    go Serializable e = subst (IsUndecidedAt m ss why) (sym e) (undecided_serial m ss why legal (subst (IsUndecidedAt m (resolved ss) why) e h))
    go Snapshot e = subst (IsUndecidedAt m ss why) (sym e) (undecided_snapshot m ss why (subst (IsUndecidedAt m (resolved ss) why) e h))
    go Prefix e = subst (IsUndecidedAt m ss why) (sym e) (undecided_prefix m ss why (subst (IsUndecidedAt m (resolved ss) why) e h))
    go (Below below) e = subst (IsUndecidedAt m ss why) (sym e) (undecided_below m below ss why legal (subst (IsUndecidedAt m (resolved ss) why) e h))

-- ---- parts
part_once : (ss part : List ClientSession) → IsPart (resolved (resolved ss)) part → IsPart (resolved ss) part
part_once ss part h = subst (λ l. IsPart l part) (twice ss) h

tried_of_resolved : (m : JudgeMeans) (ss : List ClientSession) (tried : Tried) → IsTried m (resolved ss) tried → IsTried m ss tried
tried_of_resolved m ss Nothing h = tt
tried_of_resolved m ss NotSerial h = tt
tried_of_resolved m ss PartSerial (part, h) = (part, record { is_part = part_once ss part h.is_part; order = h.order })
tried_of_resolved m ss (PartOpen why) (part, h) = (part, record { is_part = part_once ss part h.is_part; undecided = h.undecided })

-- ---- parts that are told
pub told_of_resolved : (level : Level) (ss : List ClientSession) (told : RefutedPart) → AllByRecursion IsLegal ss → IsSoundLog ss → IsToldPart level (resolved ss) told → IsToldPart level ss told
told_of_resolved level ss told legal sound h =
    let part = map view told.part.items in
    let is_part = part_once ss part h.part.is_part in
    record {
      none = none_at_part level ss part legal sound is_part h.part.refuted.none;
      part = record { is_part = is_part; refuted = h.part.refuted };
      made = subst (λ l. IsMadeOf l told) (twice ss) h.made;
    }

pub each_told : (level : Level) (ss known : List ClientSession) (parts : List RefutedPart) → AllByRecursion IsLegal ss → IsSoundLog ss → known ≡ resolved ss → AllByRecursion (IsToldPart level known) parts → AllByRecursion (IsToldPart level ss) parts
each_told level ss known parts legal sound same h =
    each_weaker (IsToldPart level known) (IsToldPart level ss) (λ told t. told_of_resolved level ss told legal sound (subst (λ l. IsToldPart level l told) same t)) parts h

-- ---- of a log whose outcomes are known
part_of_known : (ss part : List ClientSession) → IsLog ss → IsPart ss part → IsPart (resolved ss) part
part_of_known ss part log h = subst (λ l. IsPart l part) (sym (known ss log)) h

pub told_by_part : (level : Level) (ss : List ClientSession) (told : RefutedPart) → IsLog ss → IsPart ss (map view told.part.items) → IsMadeOf ss told → IsRefutedLog level (map view told.part.items) told.finding → IsToldPart level ss told
told_by_part level ss told log h made refuted =
    let part = map view told.part.items in
    let is_part = part_of_known ss part log h in
    record {
      none = none_at_part level ss part log.legal log.sound is_part refuted.none;
      part = record { is_part = is_part; refuted = refuted };
      made = subst (λ l. IsMadeOf l told) (sym (known ss log)) made;
    }

pub told_whole : (level : Level) (ss : List ClientSession) (told : RefutedPart) → IsLog ss → map view told.part.items ≡ ss → IsMadeOf ss told → IsRefutedLog level ss told.finding → IsToldPart level ss told
told_whole level ss told log same made refuted =
    told_by_part level ss told log (subst (IsPart ss) (sym same) (part_itself ss)) made (subst (λ l. IsRefutedLog level l told.finding) (sym same) refuted)

-- what became of the part of these flags is what became of a part
pub tried_part : (m : JudgeMeans) (ss : List ClientSession) (flags : List (List Bool)) (tried : Tried) → IsLog ss → IsTriedOf m (chosen flags ss) tried → IsTried m ss tried
tried_part m ss flags Nothing log h = tt
tried_part m ss flags NotSerial log h = tt
tried_part m ss flags PartSerial log h = (chosen flags ss, record { is_part = part_of_known ss (chosen flags ss) log (chosen_part ss flags log); order = h })
tried_part m ss flags (PartOpen why) log h = (chosen flags ss, record { is_part = part_of_known ss (chosen flags ss) log (chosen_part ss flags log); undecided = h })

-- the part that is told is a log
pub told_is_log : (level : Level) (ss : List ClientSession) (told : RefutedPart) → IsLog ss → IsToldPart level ss told → IsLog (map view told.part.items)
told_is_log level ss told log h = part_log ss (map view told.part.items) log (subst (λ l. IsPart l (map view told.part.items)) (known ss log) h.part.is_part)

-- ---- verdicts
pub verdict_of_resolved : (m : JudgeMeans) (ss : List ClientSession) (v : Verdict) → AllByRecursion IsLegal ss → IsSoundLog ss → IsSaid m (resolved ss) v → IsVerdict m ss v
verdict_of_resolved m ss (verdict.Serializable order) legal sound h = order_of_resolved m.level ss order.items h
verdict_of_resolved m ss (verdict.NotSerializable told) legal sound h = let t = told_of_resolved m.level ss told legal sound h in (t.none, t.part)
verdict_of_resolved m ss (verdict.Undecided why tried) legal sound (h, t) = (undecided_of_resolved m ss why legal h, tried_of_resolved m ss tried t)

pub made_of_known : (m : JudgeMeans) (ss : List ClientSession) (v : Verdict) → IsLog ss → IsSaid m ss v → IsMade ss v
made_of_known m ss (verdict.Serializable order) log h = tt
made_of_known m ss (verdict.NotSerializable told) log h = subst (λ l. IsMadeOf l told) (known ss log) h.made
made_of_known m ss (verdict.Undecided why tried) log h = tt

-- ---- of sessions that a log's are when they are resolved
pub of_each : {E : Type 0} (m : JudgeMeans) (known : List ClientSession) (r : Result Verdict E) → IfOk r (IsSaid m known)
    → IfOk r (λ verdict. (ss : List ClientSession) → AllByRecursion IsLegal ss → IsSoundLog ss → known ≡ resolved ss → IsVerdict m ss verdict)
of_each m known (Ok v) h = λ ss legal sound same. verdict_of_resolved m ss v legal sound (subst (λ l. IsSaid m l v) same h)
of_each m known (Err e) h = tt

pub made_if_ok : {E : Type 0} (m : JudgeMeans) (known : List ClientSession) (r : Result Verdict E) → IsLog known → IfOk r (IsSaid m known) → IfOk r (IsMade known)
made_if_ok m known (Ok v) log h = made_of_known m known v log h
made_if_ok m known (Err e) log h = tt

pub each_if_ok : {E : Type 0} (level : Level) (known : List ClientSession) (r : Result (Vec RefutedPart Global) E) → IfOk r (λ parts. AllByRecursion (IsToldPart level known) parts.items)
    → IfOk r (λ parts. (ss : List ClientSession) → AllByRecursion IsLegal ss → IsSoundLog ss → known ≡ resolved ss → AllByRecursion (IsToldPart level ss) parts.items)
each_if_ok level known (Ok parts) h = λ ss legal sound same. each_told level ss known parts.items legal sound same h
each_if_ok level known (Err e) h = tt
