-- A call, by its words or by why they cannot be had.
use Rattle.std.proofs.Common.{◌≡◌, ℕ, List, map, string_bytes, Option, Some, Result, Ok, Err, Vec, String, sym, subst}
use Rattle.std.specs.IoError.{error_kind}
use Rattle.std.specs.declared.alloc.Global.{Global}
use Rattle.std.specs.declared.io.Error.{Error}
use Rattle.std.specs.declared.time.Instant.{Instant}
use Rattle.cobra_words.specs.Asked.{IsRead}
use Rattle.cobra_words.specs.declared.request.Words.{Words}
use Rattle.cobra_program.specs.Left.{Left, EndsBefore}
use Rattle.cobra_program.specs.Program.{words_ending, IsFollowed, IsCall, IsProgram, by_words}

pub with_words : (start : Option Instant) (words : Result (Vec (String Global) Global) Error) (own : Vec (String Global) Global) (c : Left) (status : ℕ) → words ≡ Ok own → IsCall start (map string_bytes own.items) c status → IsProgram start words c status
with_words start words own c status is h = subst (λ w. IsProgram start w c status) (sym is) h

pub without_words : (start : Option Instant) (words : Result (Vec (String Global) Global) Error) (e : Error) (c : Left) (status : ℕ) → words ≡ Err e → EndsBefore (words_ending (error_kind e)) c status → IsProgram start words c status
without_words start words e c status is h = subst (λ w. IsProgram start w c status) (sym is) h

pub read_so : (start : Option Instant) (items texts : List (String Global)) (read : Option Words) (c : Left) (status : ℕ) → texts ≡ items → IsRead (map string_bytes texts) read → IsFollowed start read c status → IsCall start (map string_bytes items) c status
read_so start items texts read c status same h follows = by_words read (subst (λ xs. IsRead (map string_bytes xs) read) same h) follows

pub read_as : (texts : List (List ℕ)) (read : Option Words) (some words : Words) → read ≡ Some some → some ≡ words → IsRead texts read → IsRead texts (Some words)
read_as texts read some words e is h = subst (λ w. IsRead texts (Some w)) is (subst (λ r. IsRead texts r) e h)
