-- Marks that a view keeps, or does not.
use Rattle.std.specs.Prelude.{◌≡◌, ◌↔◌, ◌⊎◌, ℕ, ◌<◌, ◌≤◌, nat_lt, false, List, Option, Some, None, length, slice_set, Vec}
use Rattle.std.specs.List.{Contains}
use Rattle.std.specs.declared.alloc.Global.{Global}
use Rattle.serializability.specs.Polygraph.{Edge, Choice}
use Rattle.reach_laws.specs.Reach.{Graph}
use Rattle.reach_rows.specs.ReachRows.{AreRowsOf}
use Rattle.pruning_laws.specs.declared.side.Side.{Side}
use Rattle.known_graph.specs.Bits.{bit_of, row_len}
use Rattle.branching.specs.Marked.{AreIncoming, AreMarked}
use Rattle.branching.specs.declared.kept_marks.KeptMarks.{KeptMarks}
use Rattle.branching.specs.declared.kept_marks.Marks.{Marks}
use Rattle.branching.specs.declared.kept_marks.Marks.TheVariants.{Unkept, Kept}

-- the edges of all sides are listed, and the open choices are marked of which these edges refute a
-- side
pub record AreKept (n : ℕ) (choices : List Choice) (sides : List (Option Side)) (edges : List Edge)
    (k : KeptMarks) : Type 0 where
  pub incoming : AreIncoming n choices k.incoming.items
  pub marked : AreMarked choices sides edges k.bits.items

-- where they are kept
abbrev pub AreMarks : ℕ → List Choice → List (Option Side) → List Edge → Marks → Type 0
AreMarks n choices sides edges Unkept = Unit {0}
AreMarks n choices sides edges (Kept k) = AreKept n choices sides edges k

-- the edges of all sides are listed, and there is a bit for each choice
pub record IsBlank (n : ℕ) (choices : List Choice) (k : KeptMarks) : Type 0 where
  pub incoming : AreIncoming n choices k.incoming.items
  pub len : length k.bits.items ≡ row_len (length choices)

abbrev pub AreBlank : ℕ → List Choice → Marks → Type 0
AreBlank n choices Unkept = Unit {0}
AreBlank n choices (Kept k) = IsBlank n choices k

-- the marks alone, where they were kept
abbrev pub AreSaved : List Choice → List (Option Side) → List Edge → Option (Vec ℕ Global) → Type 0
AreSaved choices sides edges None = Unit {0}
AreSaved choices sides edges (Some bits) = AreMarked choices sides edges bits.items

-- so many lists, where there are any
abbrev pub HaveLists : ℕ → Marks → Type 0
HaveLists count Unkept = Unit {0}
HaveLists count (Kept k) = length k.incoming.items ≡ count

-- a bit for each of so many choices, where there are any
abbrev pub HaveRoom : ℕ → Marks → Type 0
HaveRoom count Unkept = Unit {0}
HaveRoom count (Kept k) = length k.bits.items ≡ row_len count

abbrev pub HasRoom : ℕ → Option (Vec ℕ Global) → Type 0
HasRoom count None = Unit {0}
HasRoom count (Some bits) = length bits.items ≡ row_len count

-- these bits, or those of so many choices
abbrev pub HasBits : ℕ → Option (Vec ℕ Global) → List ℕ → Type 0
HasBits count None bits = (k : ℕ) → bit_of bits k ≡ nat_lt k count
HasBits count (Some saved) bits = bits ≡ saved.items

-- none of these choices is marked
pub record IsUnmarked (bits : List ℕ) (from to : ℕ) : Type 0 where
  pub each : (c : ℕ) → from ≤ c → c < to → bit_of bits c ≡ false

pub record ClearsMarks (old new : Marks) : Type 0 where
  pub each : (n : ℕ) (choices : List Choice) (sides : List (Option Side)) (edges : List Edge)
      → AreMarks n choices sides edges old → AreBlank n choices new

pub record SavesMarks (marks : Marks) (saved : Option (Vec ℕ Global)) : Type 0 where
  pub each : (n : ℕ) (choices : List Choice) (sides : List (Option Side)) (edges : List Edge)
      → AreMarks n choices sides edges marks → AreSaved choices sides edges saved

-- what was right of the saved marks is right of these
pub record TakesSaved (count : ℕ) (saved : Option (Vec ℕ Global)) (old new : Marks) : Type 0 where
  pub each : (n : ℕ) (choices : List Choice) (sides next : List (Option Side))
      (edges others : List Edge) → length choices ≡ count → length next ≡ count
      → AreMarks n choices sides edges old → AreSaved choices next others saved
      → AreMarks n choices next others new

-- the marks are right of one edge more
pub record AddsMarks (rows : Graph) (e : Edge) (old new : Marks) : Type 0 where
  pub each : (n : ℕ) (choices : List Choice) (sides : List (Option Side)) (before after : Graph)
      → length sides ≡ length choices → AreRowsOf rows before
      → ((x : Edge) → (Contains after.edges x ↔ (Contains before.edges x ⊎ (x ≡ e))))
      → AreMarks n choices sides before.edges old → AreMarks n choices sides after.edges new

-- the marks are right of one decided choice more
pub record RemovesMark (c : ℕ) (old new : Marks) : Type 0 where
  pub each : (n : ℕ) (choices : List Choice) (sides : List (Option Side)) (edges : List Edge)
      (side : Side) → c < length sides
      → AreMarks n choices sides edges old → AreMarks n choices
      (slice_set sides c (Some side)) edges new
