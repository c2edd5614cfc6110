-- What the parts of reading say of a log.
use Rattle.cobra_formulas.proofs.Prelude.{◌≡◌, ℕ, List, Option, Some, None, Result, Ok, Err, refl, sym, subst, IfErr, AllByRecursion, ClientSession, IsLegal, IsHeldBy, log_text, version_of, first_line}
use Rattle.std.specs.Option.{option_or}
use Rattle.session_log.specs.declared.version.Version.{Version}
use Rattle.session_log.specs.Blocks.{size_fault}
use Rattle.session_log.specs.Faults.{grammar_fault, IsFault}
use Rattle.session_log.specs.declared.fault.LogFault.{LogFault}
use Rattle.session_log.specs.declared.fault.LogFault.TheVariants as faults
use Rattle.gather.specs.Pieces.{reading_fault}
use Rattle.log_definitions.specs.WellFormed.{list_fault, IsLogFault, memory, size, grammar, list}

-- a fault, where memory is one apart
named : {P : LogFault → Type 0} (whole : Option LogFault) (f : LogFault) → P faults.Memory → ((g : LogFault) → whole ≡ Some g → P g) → IsFault f whole → P f
named whole faults.Memory m to h = m
named whole f m to h = to f h

pub from_size : (text : List ℕ) (f : LogFault) → IsFault f (size_fault text) → IsLogFault text f
from_size text f h = named {P = IsLogFault text} (size_fault text) f memory (λ g e. size g e) h

pub from_grammar : (text : List ℕ) (f : LogFault) → size_fault text ≡ None → IsFault f (grammar_fault text) → IsLogFault text f
from_grammar text f s h = named {P = IsLogFault text} (grammar_fault text) f memory (λ g e. grammar g s e) h

reading : (text : List ℕ) (f : LogFault) (o : Option LogFault) → size_fault text ≡ o → IsFault f (option_or o (grammar_fault text)) → IsLogFault text f
reading text f None e h = from_grammar text f e h
reading text f (Some g) e h = from_size text f (subst (IsFault f) (sym e) h)

pub from_reading : (text : List ℕ) (f : LogFault) → IsFault f (reading_fault text) → IsLogFault text f
from_reading text f h = reading text f (size_fault text) refl h

-- what a log was read as
pub record IsRead (text : List ℕ) (ss : List ClientSession) : Type 0 where
  pub size : size_fault text ≡ None
  pub legal : AllByRecursion IsLegal ss
  pub held : AllByRecursion (IsHeldBy (version_of text)) ss
  pub lines : text ≡ log_text (version_of text) ss

from_list : (text : List ℕ) (ss : List ClientSession) (f : LogFault) → IsRead text ss → IsFault f (list_fault (first_line (version_of text)) ss) → IsLogFault text f
from_list text ss f r h = named {P = IsLogFault text} (list_fault (first_line (version_of text)) ss) f memory (λ g e. list g ss r.size r.legal r.held r.lines e) h

pub from_build : {X : Type 0} (text : List ℕ) (ss : List ClientSession) (v : Version) (r : Result X LogFault) → IsRead text ss → v ≡ version_of text → IfErr r (λ f. IsFault f (list_fault (first_line v) ss)) → IfErr r (IsLogFault text)
from_build text ss v (Ok x) read e h = tt
from_build text ss v (Err f) read e h = from_list text ss f read (subst (λ w. IsFault f (list_fault (first_line w) ss)) e h)
