-- The command that a parse entered, by its name and by its matches.
use Rattle.cobra_words.proofs.Prelude.{◌≡◌, List, [], Option, None, Some, ap, sym, subst, ◌∙◌, refl, inl, inr, option_map, true, Row, Text, App, is_simple, subcommand_of, subcommand_rows_of, HasMatchesOf, Lists, program_app, IsAskedBy}
use Rattle.cobra_words.proofs.Prelude.{IsInRange, IsAskedFor, IsAskedForNone, IsShownFor}
use Rattle.clap.specs.Faults.{fault_of, is_simple_and_free}
use Rattle.clap.specs.Kinds.{Kinds, HasKind, IsAmong}
use Rattle.clap.specs.Takes.{takes}
use Rattle.clap.specs.Values.{kind_of}
use Rattle.clap.specs.declared.error.Error.{Error}
use Rattle.clap.specs.declared.error.kind.ErrorKind.TheVariants.{OutOfMemory}
use Rattle.clap.specs.declared.parser.matches.ArgMatches.{ArgMatches}
use Rattle.cobra_words.specs.declared.request.Request.{Request}

pub none_entered : {B C : Type 0} (s : Option B) (f : B → Text) (g : B → C) (x : C) → (let o : Option Text = None in o) ≡ option_map f s → option_map g s ≡ Some x → ⊥
none_entered None f g x e h = cc
none_entered (Some b) f g x e h = cc

pub same_entered : {B : Type 0} (s : Option B) (f : B → Text) (g : B → List Row) (n : Text) (rs : List Row) (name : Text) (rows : List Row) → Some n ≡ option_map f s → Some rs ≡ option_map (λ (p : Text × List Row). p.1) (option_map (λ b. let p : Text × List Row = (f b, g b) in p) s) → option_map (λ b. let p : Text × List Row = (f b, g b) in p) s ≡ Some (name, rows) → (name ≡ n) × (rows ≡ rs)
same_entered None f g n rs name rows e k h = cc
same_entered (Some b) f g n rs name rows e k h =
    let pair : (let p : Text × List Row = (f b, g b) in p) ≡ (name, rows) = cc in
    let first : n ≡ f b = cc in
    let second : rs ≡ g b = cc in
    (sym (first ∙ ap (λ (p : Text × List Row). p.0) pair), sym (second ∙ ap (λ (p : Text × List Row). p.1) pair))

program_is_simple : (l : Lists) → is_simple (program_app l) ≡ true
program_is_simple l = refl

program_is_free : (l : Lists) → is_simple_and_free (program_app l) ≡ true
program_is_free l = refl

-- the words of a parse that succeeds have no fault
taken_by : (l : Lists) (words : List Text) (app : App) → app ≡ program_app l → (is_simple_and_free app ≡ true → fault_of app words ≡ []) → fault_of (program_app l) words ≡ []
taken_by l words app is free = subst (λ a. fault_of a words ≡ []) is (free (subst (λ a. is_simple_and_free a ≡ true) (sym is) (program_is_free l)))

among : (kinds : Kinds) (e : Error) → HasKind kinds e → (kind_of e ≡ OutOfMemory → ⊥) → IsAmong (kind_of e) kinds
among kinds e (inl h) other = absurd (other h)
among kinds e (inr h) other = h

pub shown_by : (l : Lists) (words : List Text) (app : App) (e : Error) → app ≡ program_app l → (is_simple_and_free app ≡ true → HasKind (fault_of app words) e) → (takes app words ≡ true → kind_of e ≡ OutOfMemory) → (kind_of e ≡ OutOfMemory → ⊥) → IsShownFor l words e
shown_by l words app e is kinds passes other = record {
  fault = λ taken. other (passes (subst (λ a. takes a words ≡ true) (sym is) taken));
  kind = subst (λ a. IsAmong (kind_of e) (fault_of a words)) is (among (fault_of app words) e (kinds (subst (λ a. is_simple_and_free a ≡ true) (sym is) (program_is_free l))) other);
}

-- the words enter what the matches hold
entered_at : (l : Lists) (words : List Text) (app : App) (m : ArgMatches) → app ≡ program_app l → HasMatchesOf app words m → subcommand_rows_of m ≡ subcommand_of (program_app l) words
entered_at l words app m is has = (subst (λ a. HasMatchesOf a words m) is has (program_is_simple l)).1

pub asked_by : (l : Lists) (words : List Text) (app : App) (m : ArgMatches) (r : Request) → app ≡ program_app l → (is_simple_and_free app ≡ true → fault_of app words ≡ []) → HasMatchesOf app words m → IsAskedBy m r → IsAskedFor l words r
asked_by l words app m r is free has h = record {
  taken = taken_by l words app is free;
  asked = record {
    name = h.name;
    rows = h.rows;
    entered = sym (entered_at l words app m is has) ∙ h.entered;
    request = h.request;
  };
}

pub none_asked : (l : Lists) (words : List Text) (app : App) (m : ArgMatches) → app ≡ program_app l → (is_simple_and_free app ≡ true → fault_of app words ≡ []) → HasMatchesOf app words m → ((r : Request) → IsAskedBy m r → IsInRange r → ⊥) → IsAskedForNone l words
none_asked l words app m is free has none = record {
  taken = taken_by l words app is free;
  none = λ r h range. none r (record { name = h.name; rows = h.rows; entered = entered_at l words app m is has ∙ h.entered; request = h.request }) range;
}
