-- What telling a part needs of it, from what is known of it.
use Rattle.audit_command.proofs.Prelude.{◌≡◌, Bool, true, false, List, [], ◌∷◌, map, None, Some, sym, ap, ◌∙◌, subst, AllByRecursion, ClientSession, IsLegal, view, resolved, IsSoundLog, IsLog, no_room, Level, HasRoomAt, IsVerdict}
use Rattle.audit_command.proofs.Prelude.{IsToldPart, IsMadeOf, IsMade, JudgeMeans, RefutedPart, Verdict, Serializable, NotSerializable, Undecided, resolved_is_log, room_resolved, legal_without, sound_without, seen, IsResolved, IsPartOf}
use Rattle.audit_command.proofs.Prelude.{IsPartOfVerdict}
use Rattle.part_laws.proofs.Logs.{part_is_log}
use Rattle.splitting.specs.declared.room.NoRoom.{NoRoom}
use Rattle.judging.specs.declared.level.Level.TheVariants as level

pub log_of_known : (known : List ClientSession) → IsResolved known → IsLog known
log_of_known known k = subst IsLog (sym k.is) (resolved_is_log k.ss k.legal k.sound)

pub told_of : (level : Level) (known : List ClientSession) (k : IsResolved known) (told : RefutedPart) → IsToldPart level k.ss told → IsPartOf known told
told_of level known k told h =
    let log = resolved_is_log k.ss k.legal k.sound in
    record {
      legal = (part_is_log (resolved k.ss) (map view told.part.items) log.legal log.sound h.part.is_part).0;
      made = subst (λ l. IsMadeOf l told) (sym k.is) h.made;
    }

pub all_told_of : (level : Level) (known : List ClientSession) (k : IsResolved known) (parts : List RefutedPart) → AllByRecursion (IsToldPart level k.ss) parts → AllByRecursion (IsPartOf known) parts
all_told_of level known k [] h = tt
all_told_of level known k (p ∷ ps) h = (told_of level known k p h.0, all_told_of level known k ps h.1)

pub verdict_part : (m : JudgeMeans) (known : List ClientSession) (k : IsResolved known) (v : Verdict) → IsVerdict m k.ss v → IsMade (resolved k.ss) v → IsPartOfVerdict known v
verdict_part m known k (NotSerializable told) h made = told_of m.level known k told (record { none = h.0; part = h.1; made = made })
verdict_part m known k (Serializable order) h made = tt
verdict_part m known k (Undecided why tried) h made = tt

-- ---- what has no room
none_or_some : (why : NoRoom) → None ≡ Some why → ⊥
none_or_some why e = cc

pub never_without_room : (l : Level) (ss known : List ClientSession) (why : NoRoom) → known ≡ resolved ss → l ≡ level.Snapshot → no_room known ≡ Some why → HasRoomAt l ss → ⊥
never_without_room l ss known why same at none room =
    let own : no_room ss ≡ None = subst (λ v. HasRoomAt v ss) at room in
    none_or_some why (sym own ∙ sym (room_resolved ss) ∙ ap no_room (sym same) ∙ none)

-- ---- sessions that are judged without their moments
pub seen_legal : (b : Bool) (ss : List ClientSession) → AllByRecursion IsLegal ss → AllByRecursion IsLegal (seen b ss)
seen_legal true ss legal = legal_without ss legal
seen_legal false ss legal = legal

pub seen_sound : (b : Bool) (ss : List ClientSession) → AllByRecursion IsLegal ss → IsSoundLog ss → IsSoundLog (seen b ss)
seen_sound true ss legal sound = sound_without ss legal sound
seen_sound false ss legal sound = sound
