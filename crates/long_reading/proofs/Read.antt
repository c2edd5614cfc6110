-- What is read of blocks that follow one another.
use Rattle.long_reading.proofs.Prelude.{◌≡◌, ℕ, zero, suc, ◌+◌, ◌<◌, List, [], ◌∷◌, ◌++◌, length, map, take, drop, get_or, Option, Some, None, refl, sym, ap, ◌∙◌, subst, arith, slice_get, flat_map, AllByRecursion, Contains, append-nil}
use Rattle.long_reading.proofs.Prelude.{map-append, length-map, take_more, drop_more, take-append-drop, flat_map-append, some_at, ClientSession, view, IsLegal, IsHeldBy, session_text, version_of, IsFault, block_text, block_fault, first_of}
use Rattle.long_reading.proofs.Prelude.{Block, Session, LogFault, same_fault, fault_as, AreRead, fault_of_blocks}
use denote.Ref.{Bor}
use Rattle.std.proofs.lemmas.Option.{slice_get_within, get_or_from_slice_get}
use Rattle.log_definitions.proofs.Members.{themselves}

module _ {A : Type 0} where
  pub all_append : (P : A → Type 0) (xs ys : List A) → AllByRecursion P xs → AllByRecursion P ys → AllByRecursion P (xs ++ ys)
  all_append P [] ys h k = k
  all_append P (x ∷ xs) ys h k = (h.0, all_append P xs ys h.1 k)

  all_front : (P : A → Type 0) (xs ys : List A) → AllByRecursion P (xs ++ ys) → AllByRecursion P xs
  all_front P [] ys h = tt
  all_front P (x ∷ xs) ys h = (h.0, all_front P xs ys h.1)

  all_back : (P : A → Type 0) (xs ys : List A) → AllByRecursion P (xs ++ ys) → AllByRecursion P ys
  all_back P [] ys h = h
  all_back P (x ∷ xs) ys h = all_back P xs ys h.1

pub flat_map-map : {X Y Z : Type 0} (f : Y → List Z) (g : X → Y) (xs : List X) → flat_map (λ x. f (g x)) xs ≡ flat_map f (map g xs)
flat_map-map f g [] = refl
flat_map-map f g (x ∷ xs) = ap (λ l. f (g x) ++ l) (flat_map-map f g xs)

pub first_of-append : (xs ys : List (Option LogFault)) → first_of xs ≡ None → first_of (xs ++ ys) ≡ first_of ys
first_of-append [] ys h = refl
first_of-append (None ∷ xs) ys h = first_of-append xs ys h
first_of-append (Some f ∷ xs) ys h = cc

first_of-front : (xs ys : List (Option LogFault)) (f : LogFault) → first_of xs ≡ Some f → first_of (xs ++ ys) ≡ Some f
first_of-front [] ys f h = cc
first_of-front (None ∷ xs) ys f h = first_of-front xs ys f h
first_of-front (Some g ∷ xs) ys f h = h

-- ---- of the blocks of a log
faults_joined : (log : List ℕ) (a b : List Block) → fault_of_blocks log (a ++ b) ≡ first_of (map (block_fault log) a ++ map (block_fault log) b)
faults_joined log a b = ap first_of (map-append (block_fault log) a b)

-- a fault that is met in the front
fault_in_front : (log : List ℕ) (a b : List Block) (f : LogFault) → IsFault f (fault_of_blocks log a) → IsFault f (fault_of_blocks log (a ++ b))
fault_in_front log a b f = fault_as f (fault_of_blocks log a) (fault_of_blocks log (a ++ b)) (λ e. faults_joined log a b ∙ first_of-front (map (block_fault log) a) (map (block_fault log) b) f e)

-- one that is met behind
fault_behind : (log : List ℕ) (a b : List Block) (f : LogFault) → fault_of_blocks log a ≡ None → IsFault f (fault_of_blocks log b) → IsFault f (fault_of_blocks log (a ++ b))
fault_behind log a b f none = fault_as f (fault_of_blocks log b) (fault_of_blocks log (a ++ b)) (λ e. faults_joined log a b ∙ (first_of-append (map (block_fault log) a) (map (block_fault log) b) none ∙ e))

pub read_joined : (log : List ℕ) (a b : List Block) (xs ys : List ClientSession) → AreRead log a xs → AreRead log b ys → AreRead log (a ++ b) (xs ++ ys)
read_joined log a b xs ys front back = record {
  legal = all_append IsLegal xs ys front.legal back.legal;
  held = all_append (IsHeldBy (version_of log)) xs ys front.held back.held;
  texts = map-append (block_text log) a b ∙ (ap (λ l. l ++ map (block_text log) b) front.texts ∙ (ap (λ l. map session_text xs ++ l) back.texts ∙ sym (map-append session_text xs ys)));
  faultless = faults_joined log a b ∙ (first_of-append (map (block_fault log) a) (map (block_fault log) b) front.faultless ∙ back.faultless);
}

-- ---- one block more
alone : (o : Option LogFault) → first_of (o ∷ []) ≡ o
alone None = refl
alone (Some f) = refl

viewed_push : (items now : List Session) (s : Session) → now ≡ items ++ s ∷ [] → map view now ≡ map view items ++ view s ∷ []
viewed_push items now s e = ap (map view) e ∙ map-append view items (s ∷ [])

pub one_read : (log : List ℕ) (blocks : List Block) (i : ℕ) (d : Block) (items now : List Session) (s : Session) → i < length blocks → AreRead log (take i blocks) (map view items)
    → now ≡ items ++ s ∷ [] → block_fault log (get_or blocks i d) ≡ None → IsLegal (view s) → IsHeldBy (version_of log) (view s) → block_text log (get_or blocks i d) ≡ session_text (view s) → AreRead log (take (i + 1) blocks) (map view now)
one_read log blocks i d items now s h front e none legal held text =
    let b = get_or blocks i d in
    let both : AreRead log (take i blocks ++ b ∷ []) (map view items ++ view s ∷ []) = read_joined log (take i blocks) (b ∷ []) (map view items) (view s ∷ []) front (record {
      legal = (legal, tt);
      held = (held, tt);
      texts = ap (λ t. t ∷ []) text;
      faultless = alone (block_fault log b) ∙ none;
    }) in
    subst (λ bs. AreRead log bs (map view now)) (sym (take_more blocks i d h)) (subst (AreRead log (take i blocks ++ b ∷ [])) (sym (viewed_push items now s e)) both)

pub one_refused : (log : List ℕ) (blocks : List Block) (i : ℕ) (d : Block) (ss : List ClientSession) (f : LogFault) → i < length blocks → AreRead log (take i blocks) ss
    → IsFault f (block_fault log (get_or blocks i d)) → IsFault f (fault_of_blocks log blocks)
one_refused log blocks i d ss f h front fault =
    let b = get_or blocks i d in
    let whole : take i blocks ++ b ∷ drop (i + 1) blocks ≡ blocks = ap (λ l. take i blocks ++ l) (sym (drop_more blocks i d h)) ∙ take-append-drop i blocks in
    subst (λ bs. IsFault f (fault_of_blocks log bs)) whole
    (fault_behind log (take i blocks) (b ∷ drop (i + 1) blocks) f front.faultless
    (fault_in_front log (b ∷ []) (drop (i + 1) blocks) f (same_fault f (fault_of_blocks log (b ∷ [])) (block_fault log b) (alone (block_fault log b)) fault)))

-- ---- one part more
abbrev pub whole_of : List (List Block) → List Block
whole_of parts = flat_map (λ (part : List Block). part) parts

pub part_read : (log : List ℕ) (parts : List (List Block)) (i : ℕ) (blocks : List Block) (xs ys : List ClientSession) → slice_get parts i ≡ Some blocks → AreRead log (whole_of (take i parts)) xs → AreRead log blocks ys → AreRead log (whole_of (take (i + 1) parts)) (xs ++ ys)
part_read log parts i blocks xs ys at front back =
    let more : take (i + 1) parts ≡ take i parts ++ blocks ∷ [] = take_at parts i blocks at in
    let whole : whole_of (take (i + 1) parts) ≡ whole_of (take i parts) ++ blocks = ap whole_of more ∙ (flat_map-append (λ (part : List Block). part) (take i parts) (blocks ∷ []) ∙ ap (λ l. whole_of (take i parts) ++ l) (append-nil blocks)) in
    subst (λ bs. AreRead log bs (xs ++ ys)) (sym whole) (read_joined log (whole_of (take i parts)) blocks xs ys front back)
  where
    take_at : (xs : List (List Block)) (k : ℕ) (x : List Block) → slice_get xs k ≡ Some x → take (k + 1) xs ≡ take k xs ++ x ∷ []
    take_at xs k x e = take_more xs k x (slice_get_within xs k x e) ∙ ap (λ y. take k xs ++ y ∷ []) (get_or_from_slice_get xs k x x e)

pub part_refused : (log : List ℕ) (parts : List (List Block)) (i : ℕ) (blocks : List Block) (xs : List ClientSession) (f : LogFault) → slice_get parts i ≡ Some blocks → AreRead log (whole_of (take i parts)) xs → IsFault f (fault_of_blocks log blocks) → IsFault f (fault_of_blocks log (whole_of parts))
part_refused log parts i blocks xs f at front fault =
    subst (λ bs. IsFault f (fault_of_blocks log bs)) split
    (fault_behind log (whole_of (take i parts)) (blocks ++ whole_of (drop (i + 1) parts)) f front.faultless (fault_in_front log blocks (whole_of (drop (i + 1) parts)) f fault))
  where
    here : drop i parts ≡ blocks ∷ drop (i + 1) parts
    here = drop_more parts i blocks (slice_get_within parts i blocks at) ∙ ap (λ y. y ∷ drop (i + 1) parts) (get_or_from_slice_get parts i blocks blocks at)

    split : whole_of (take i parts) ++ (blocks ++ whole_of (drop (i + 1) parts)) ≡ whole_of parts
    split = ap (λ ps. whole_of (take i parts) ++ whole_of ps) (sym here) ∙ (sym (flat_map-append (λ (part : List Block). part) (take i parts) (drop i parts)) ∙ ap whole_of (take-append-drop i parts))

-- each part is one of the whole's
pub part_contained : (P : Block → Type 0) (parts : List (List Block)) (i : ℕ) (blocks : List Block) → slice_get parts i ≡ Some blocks → AllByRecursion P (whole_of parts) → AllByRecursion P blocks
part_contained P [] i blocks e h = cc
part_contained P (p ∷ parts) zero blocks e h = let same : p ≡ blocks = cc in subst (AllByRecursion P) same (all_front P p (whole_of parts) h)
part_contained P (p ∷ parts) (suc i) blocks e h = part_contained P parts i blocks e (all_back P p (whole_of parts) h)

-- ---- parts as they are lent
abbrev pub blocks_in : List (Bor (List Block)) → List (List Block)
blocks_in parts = map (λ (part : Bor (List Block)). part.now) parts

pub blocks_count : (parts : List (Bor (List Block))) → length (blocks_in parts) ≡ length parts
blocks_count parts = length-map parts (λ (part : Bor (List Block)). part.now)

pub whole_is : (parts : List (Bor (List Block))) → whole_of (blocks_in parts) ≡ flat_map (λ part. part.now) parts
whole_is parts = sym (flat_map-map (λ (part : List Block). part) (λ (part : Bor (List Block)). part.now) parts)

pub part_is : (parts : List (Bor (List Block))) (i : ℕ) (d : Bor (List Block)) (blocks : List Block) → slice_get (blocks_in parts) i ≡ Some blocks → (get_or parts i d).now ≡ blocks
part_is [] i d blocks e = cc
part_is (p ∷ parts) zero d blocks e = cc
part_is (p ∷ parts) (suc i) d blocks e = part_is parts i d blocks e

pub part_within : (all : List Block) (parts : List (Bor (List Block))) (i : ℕ) (d : Bor (List Block)) → i < length parts → flat_map (λ part. part.now) parts ≡ all → AllByRecursion (Contains all) (get_or parts i d).now
part_within all parts i d h e =
    let found = some_at (blocks_in parts) i (omega (arith, h, blocks_count parts)) in
    let members : AllByRecursion (Contains all) (whole_of (blocks_in parts)) = subst (AllByRecursion (Contains all)) (sym (whole_is parts ∙ e)) (themselves all) in
    subst (AllByRecursion (Contains all)) (sym (part_is parts i d found.0 found.1)) (part_contained (Contains all) (blocks_in parts) i found.0 found.1 members)
