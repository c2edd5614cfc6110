-- Walks back along the sources of a key.
use Rattle.write_chains.proofs.Prelude.{◌≡◌, ◌≢◌, ◌⊎◌, ℕ, zero, suc, ◌+◌, ◌<◌, ◌≤◌, List, [], ◌∷◌, ◌++◌, length, reverse, None, Some, refl, sym, ap, subst, ◌∙◌, inl, inr, arith, length-append, nat_eq, is_some, AllByRecursion, IsDistinct}
use Rattle.write_chains.proofs.Prelude.{reverse-append, length-reverse, Log, IsClean, external_read, option_map, source, writer_of, Has, Apart, Apart-from_IsDistinct, source_is, writers_in, next, IsLinked, last, IsClosedChain, NoneCloses}
use Rattle.write_chains.proofs.Prelude.{IsNext, next_from, some_one, last_push, linked_push, each_contained, IsOpenIn, IsOpen}
use Rattle.std.proofs.lemmas.Map.Steps.{length-le_from_distinct_below}
use Rattle.chain_laws.proofs.Maximal.{below_all}
use Rattle.write_chains.proofs.Nexts.{IsOneWriter, writer_among}

-- behind v each of these nodes is the one that the node before it reads from
abbrev pub IsBack : Log → ℕ → ℕ → List ℕ → Type 0
IsBack log x v [] = Unit {0}
IsBack log x v (u ∷ rest) = IsNext log x u v × IsBack log x u rest

-- node 0, or one that writes the key
abbrev pub IsSource : Log → ℕ → ℕ → Type 0
IsSource log x v = (v ≡ 0) ⊎ IsOneWriter log x v

-- the way from a writer back to another node, on which no node stands twice
pub record WalkedBack (log : Log) (x writer first : ℕ) (line : List ℕ) : Type 0 where
  pub rest : List ℕ
  pub shape : line ≡ writer ∷ rest
  pub back : IsBack log x writer rest
  pub ends : last writer rest ≡ first
  pub apart : IsDistinct nat_eq (writer ∷ rest)
  pub within : AllByRecursion (λ u. u ≤ log.nodes) (writer ∷ rest)
  pub kind : IsSource log x first

pub alone : (log : Log) (x v : ℕ) (line : List ℕ) → IsOneWriter log x v → line ≡ v ∷ [] → WalkedBack log x v v line
unfolding IsDistinct
alone log x v line k e = record { rest = []; shape = e; back = tt; ends = refl; apart = (tt, tt); within = (k.high, tt); kind = inr k }

-- ---- one step back
back_push : (log : Log) (x v u : ℕ) (rest : List ℕ) → IsBack log x v rest → IsNext log x u (last v rest) → IsBack log x v (rest ++ u ∷ [])
back_push log x v u [] b k = (k, tt)
back_push log x v u (w ∷ rest) b k = (b.0, back_push log x w u rest b.1 k)

each_push : (P : ℕ → Type 0) (xs : List ℕ) (v : ℕ) → AllByRecursion P xs → P v → AllByRecursion P (xs ++ v ∷ [])
each_push P [] v h p = (p, tt)
each_push P (x ∷ xs) v h p = (h.0, each_push P xs v h.1 p)

distinct_push : (xs : List ℕ) (v : ℕ) → IsDistinct nat_eq xs → (Has v xs → ⊥) → IsDistinct nat_eq (xs ++ v ∷ [])
unfolding IsDistinct
distinct_push [] v d absent = grind (arith, each_push)
distinct_push (x ∷ xs) v d absent = grind (arith, each_push, distinct_push xs v d.1 (λ h. absent (inr h)))

last_among : (v : ℕ) (rest : List ℕ) → Has (last v rest) (v ∷ rest)
last_among v [] = inl refl
last_among v (u ∷ rest) = inr (last_among u rest)

-- the source of the first is none of the others, since each has one next writer
not_again : (log : Log) → IsClean log → (x v s : ℕ) (rest : List ℕ) → IsBack log x v rest → IsNext log x s (last v rest) → Apart (v ∷ rest) → Has s rest → ⊥
not_again log clean x v s [] b k a h = h
not_again log clean x v s (u ∷ rest) b k a (inl e) =
    let there = next_from log clean x s (last u rest) k in
    let here = next_from log clean x u v b.0 in
    let same : v ≡ last u rest = some_one (next log x s) v (last u rest) (ap (next log x) (sym e) ∙ here) there in
    a.0 (subst (λ q. Has q (u ∷ rest)) (sym same) (last_among u rest))
not_again log clean x v s (u ∷ rest) b k a (inr h) = not_again log clean x u s rest b.1 k a.1 h

source_kind : (log : Log) → IsClean log → (x v u : ℕ) → 0 < v → v ≤ log.nodes → source log v x ≡ Some u → IsSource log x u
source_kind log clean x v u lo hi e = elim (source_is log clean v x u lo hi e).final [
  | inl z ↦ inl z.0
  | inr w ↦ inr (record { low = w.0; high = w.1; writer = ap is_some w.2 })
]

source_high : (log : Log) (x u : ℕ) → IsSource log x u → u ≤ log.nodes
source_high log x u (inl z) = omega (arith, z)
source_high log x u (inr k) = k.high

-- a node with a source is the next writer of it, where node 0 has none
is_next : (log : Log) (x v u : ℕ) → source log 0 x ≡ None → IsSource log x v → source log v x ≡ Some u → IsNext log x u v
is_next log x v u none v5 e = grind arith

pub stepped : (log : Log) → IsClean log → (x writer first s : ℕ) (line next : List ℕ) → source log 0 x ≡ None → WalkedBack log x writer first line → source log first x ≡ Some s → s ≢ writer → next ≡ line ++ s ∷ [] → WalkedBack log x writer s next
stepped log clean x writer first s line next none w e ne is =
    let k = is_next log x first s none w.kind e in
    let end : IsNext log x s (last writer w.rest) = subst (IsNext log x s) (sym w.ends) k in
    let kind = source_kind log clean x first s k.low k.high e in
    record {
      rest = w.rest ++ s ∷ [];
      shape = is ∙ ap (λ l. l ++ s ∷ []) w.shape;
      back = back_push log x writer s w.rest w.back end;
      ends = last_push writer s w.rest;
      apart = distinct_push (writer ∷ w.rest) s w.apart (absent end);
      within = each_push (λ u. u ≤ log.nodes) (writer ∷ w.rest) s w.within (source_high log x s kind);
      kind = kind;
    }
  where
    absent : IsNext log x s (last writer w.rest) → Has s (writer ∷ w.rest) → ⊥
    absent end (inl same) = ne (sym same)
    absent end (inr h) = not_again log clean x writer s w.rest w.back end (Apart-from_IsDistinct (writer ∷ w.rest) w.apart) h

-- ---- the way is no longer than the nodes are many
pub line_short : (log : Log) (x writer first : ℕ) (line : List ℕ) → WalkedBack log x writer first line → length line ≤ log.nodes + 1
line_short log x writer first line w =
    let many = length-le_from_distinct_below (writer ∷ w.rest) (log.nodes + 1) w.apart (below_all log.nodes (writer ∷ w.rest) w.within) in
    let same = ap length w.shape in
    omega (arith, many, same)

-- ---- a way that comes back
record Reversed (log : Log) (x v : ℕ) (rest : List ℕ) : Type 0 where
  pub others : List ℕ
  pub shape : reverse (v ∷ rest) ≡ last v rest ∷ others
  pub linked : IsLinked log x (last v rest) others
  pub ends : last (last v rest) others ≡ v

reversed : (log : Log) (x v : ℕ) (rest : List ℕ) → IsBack log x v rest → Reversed log x v rest
reversed log x v [] b = record { others = []; shape = refl; linked = tt; ends = refl }
reversed log x v (u ∷ rest) b =
    let r = reversed log x u rest b.1 in
    record {
      others = r.others ++ v ∷ [];
      shape = reverse-append (v ∷ []) (u ∷ rest) ∙ ap (λ l. l ++ v ∷ []) r.shape;
      linked = linked_push log x (last u rest) v r.others r.linked (subst (λ q. IsNext log x q v) (sym r.ends) b.0);
      ends = last_push (last u rest) v r.others;
    }

pub came_back : (log : Log) (x writer first s : ℕ) (line next turned : List ℕ) → source log 0 x ≡ None → WalkedBack log x writer first line → source log first x ≡ Some s → s ≡ writer → next ≡ line ++ s ∷ [] → turned ≡ reverse next → IsClosedChain log x turned
came_back log x writer first s line next turned none w e same is turn =
    let k = is_next log x first s none w.kind e in
    let end : IsNext log x s (last writer w.rest) = subst (IsNext log x s) (sym w.ends) k in
    let r = reversed log x writer (w.rest ++ s ∷ []) (back_push log x writer s w.rest w.back end) in
    let ends : last writer (w.rest ++ s ∷ []) ≡ s = last_push writer s w.rest in
    let start : last writer (w.rest ++ s ∷ []) ≡ writer = ends ∙ same in
    record {
      start = last writer (w.rest ++ s ∷ []);
      rest = r.others;
      shape = turn ∙ ap reverse (is ∙ ap (λ l. l ++ s ∷ []) w.shape) ∙ r.shape;
      more = (let n = ap length r.shape in let m = length-reverse (writer ∷ (w.rest ++ s ∷ [])) in let l = length-append w.rest (s ∷ []) in omega (arith, n, m, l));
      linked = r.linked;
      closes = r.ends ∙ sym start;
    }

-- ---- a way to an open node
open_before : (log : Log) (x v u : ℕ) → source log v x ≡ Some u → IsOpen log x u → IsOpen log x v
open_before log x v u e o = record { steps = suc o.steps; back = (u, (e, o.back)) }

open_back : (log : Log) (x v : ℕ) (rest : List ℕ) → IsBack log x v rest → IsOpen log x (last v rest) → AllByRecursion (IsOpen log x) (v ∷ rest)
open_back log x v [] b o = (o, tt)
open_back log x v (u ∷ rest) b o = let r = open_back log x u rest b.1 o in (open_before log x v u b.0.from r.0, r)

pub all_open : (log : Log) (x writer first : ℕ) (line : List ℕ) → WalkedBack log x writer first line → IsOpen log x first → AllByRecursion (IsOpen log x) line
all_open log x writer first line w o = grind (arith, open_back)

pub writer_open : (log : Log) (x writer first : ℕ) (line : List ℕ) → WalkedBack log x writer first line → IsOpen log x first → IsOpen log x writer
writer_open log x writer first line w o = (open_back log x writer w.rest w.back (subst (IsOpen log x) (sym w.ends) o)).0

-- ---- where all writers are open, no chain closes on itself
-- a node of a chain that closes on itself has its source on the chain
record Closing (log : Log) (x : ℕ) (v : ℕ) : Type 0 where
  pub start : ℕ
  pub rest : List ℕ
  pub linked : IsLinked log x start rest
  pub closes : last start rest ≡ start
  pub among : Has v rest

before_in : (log : Log) (x u v : ℕ) (rest : List ℕ) → IsLinked log x u rest → Has v rest → (s : ℕ) × ((source log v x ≡ Some s) × Has s (u ∷ rest))
before_in log x u v [] l h = absurd h
before_in log x u v (w ∷ rest) l (inl e) = (u, (ap (λ q. source log q x) (sym e) ∙ l.3, inl refl))
before_in log x u v (w ∷ rest) l (inr h) = let r = before_in log x w v rest l.4 h in (r.0, (r.1.0, inr r.1.1))

last_in : (u : ℕ) (rest : List ℕ) → 0 < length rest → Has (last u rest) rest
last_in u [] more = absurd (omega arith)
last_in u (v ∷ rest) more = last_among v rest

source_closing : (log : Log) (x v : ℕ) → Closing log x v → (s : ℕ) × ((source log v x ≡ Some s) × Closing log x s)
source_closing log x v c =
    let r = before_in log x c.start v c.rest c.linked c.among in
    (r.0, (r.1.0, record { start = c.start; rest = c.rest; linked = c.linked; closes = c.closes; among = stays r.0 c.rest r.1.1 c.closes c.among }))
  where
    stays : (s : ℕ) (rest : List ℕ) → Has s (c.start ∷ rest) → last c.start rest ≡ c.start → Has v rest → Has s rest
    stays s [] h e a = absurd a
    stays s (w ∷ rest) (inl same) e a = subst (λ q. Has q (w ∷ rest)) (e ∙ same) (last_among w rest)
    stays s (w ∷ rest) (inr h) e a = h

never_open : (log : Log) (x steps v : ℕ) → Closing log x v → IsOpenIn log x steps v → ⊥
never_open log x zero v c o = let r = source_closing log x v c in let bad : None ≡ Some r.0 = sym o ∙ r.1.0 in cc
never_open log x (suc steps) v c o =
    let r = source_closing log x v c in
    let same : r.0 ≡ o.0 = some_one (source log v x) r.0 o.0 r.1.0 o.1.0 in
    never_open log x steps o.0 (subst (Closing log x) same r.1.1) o.1.1

linked_writer : (log : Log) (x u v : ℕ) (rest : List ℕ) → IsLinked log x u rest → Has v rest → IsOneWriter log x v
linked_writer log x u v [] l h = absurd h
linked_writer log x u v (w ∷ rest) l (inl e) = subst (IsOneWriter log x) e (record { low = l.0; high = l.1; writer = l.2 })
linked_writer log x u v (w ∷ rest) l (inr h) = linked_writer log x w v rest l.4 h

pub none_closes : (log : Log) (x : ℕ) (writers : List ℕ) → writers ≡ writers_in log x → AllByRecursion (IsOpen log x) writers → NoneCloses log x
none_closes log x writers e h = record { none = none }
  where
    none : (line : List ℕ) → IsClosedChain log x line → ⊥
    none line c =
        let among = last_in c.start c.rest c.more in
        let v = last c.start c.rest in
        let k = linked_writer log x c.start v c.rest c.linked among in
        let o = each_contained (IsOpen log x) (writers_in log x) v (subst (AllByRecursion (IsOpen log x)) e h) (writer_among log x v k) in
        never_open log x o.steps v (record { start = c.start; rest = c.rest; linked = c.linked; closes = c.closes; among = among }) o.back

-- ---- node 0
pub none_at_zero : (log : Log) (x : ℕ) → log.ops 0 ≡ [] → source log 0 x ≡ None
none_at_zero log x e = ap (λ ops. option_map (writer_of log x) (external_read x ops)) e
