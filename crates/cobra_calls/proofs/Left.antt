-- What a call leaves, from what its parts do.
use Rattle.cobra_calls.proofs.Prelude.{◌≡◌, ℕ, List, Option, subst, ap, ◌∙◌, inl, inr, Keeps, Request, Ending, IsDone, IsEnded, Held, IsReading, IsLogRead, IsNamedRead, IsEnding, IsAnswer, AreReads, with_named}
use Rattle.cobra_answers.specs.declared.status.Status.{Status}
use Rattle.output.specs.Sinks.{one_more}
use Rattle.cobra_words.specs.declared.request.Command.{Command}
use Rattle.cobra_calls.specs.Worlds.{by_command}

pub reading_of : (r : Request) (given : Option (List ℕ)) (held later : Held) (log named : List ℕ) → IsLogRead r given held log → later ≡ held → IsNamedRead r.command later named → IsReading r given held (record { log = log; named = named })
reading_of r given held later log named l e n = record { log = l; named = subst (λ (h : Held). IsNamedRead r.command h named) e n }

pub ended_by_command : (r : Request) (given : Option (List ℕ)) (held later : Held) (log named : List ℕ) (before after : ℕ) (old new : Option (List ℕ)) (e : Ending) → IsLogRead r given held log → later ≡ held → IsNamedRead r.command later named → IsEnded r (record { log = log; named = named }) old new e → after ≡ before → IsEnding r given held before after old new e
ended_by_command r given held later log named before after old new e l s n h c = by_command (record { log = log; named = named }) (reading_of r given held later log named l s n) h c

pub answered_so : (r : Request) (given : Option (List ℕ)) (held later : Held) (log named : List ℕ) (old told new : Option (List ℕ)) (s : Status) → IsLogRead r given held log → later ≡ held → IsNamedRead r.command later named → IsDone r (record { log = log; named = named }) old told s → Keeps told new → IsAnswer r given held old new s
answered_so r given held later log named old told new s l e n d k = record {
  read = record { log = log; named = named };
  reading = reading_of r given held later log named l e n;
  between = told;
  done = d;
  handed = k;
}

pub read_log_alone : (c : Command) (before after : ℕ) → after ≡ one_more before → AreReads c before after
read_log_alone c before after e = inl e

pub read_both : (c : Command) (before between after : ℕ) → between ≡ one_more before → after ≡ with_named c between → AreReads c before after
read_both c before between after e f = inr (f ∙ ap (λ n. with_named c n) e)
