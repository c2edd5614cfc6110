-- What the pieces of a log say of the log.
use Rattle.std.proofs.Common.{◌≡◌, ℕ, suc, ◌≤◌, length, List, [], ◌∷◌, ◌++◌, Option, Some, None, Ok, Err, map, take, drop, refl, sym, ap, ◌∙◌, subst, arith}
use Rattle.std.specs.Prelude.{slice_get}
use Rattle.std.specs.List.{AllByRecursion}
use Rattle.std.proofs.lemmas.List.{map-append, take_all}
use Rattle.session_log.specs.Text.{ClientSession, view, IsLegal, IsHeldBy, session_text, log_text}
use Rattle.session_log.specs.Version.{version_of}
use Rattle.session_log.specs.declared.session.Session.{Session}
use Rattle.session_log.specs.Lines.{lines}
use Rattle.session_log.specs.Faults.{grammar_fault, first_fault, Start, IsFault}
use Rattle.session_log.specs.Blocks.{blocks_of, block_text, block_fault, first_of}
use Rattle.session_log.specs.declared.block.Block.{Block}
use Rattle.session_log.specs.declared.fault.LogFault.{LogFault}
use Rattle.gather.specs.Pieces.{Piece, IsOutcome, IsRead, IsPiece}
use Rattle.gather.proofs.Places.{contains_at, take_at, drop_at, all_push, length_push}
use Rattle.session_log.proofs.Together.{block_version, fault_by_blocks, joined}
use Rattle.session_log.proofs.FaultsOf.{this_fault}

-- the first fault of the block, by its piece
fault_in : (log : List ℕ) (k : ℕ) (p : Piece) (h : IsPiece log k p) → block_fault log h.block ≡ first_fault p.version p.line Start (lines p.text)
fault_in log k p h = grind arith

-- the piece has the log's version
version_in : (log : List ℕ) (k : ℕ) (p : Piece) → IsPiece log k p → p.version ≡ version_of log
version_in log k p h = h.piece.version ∙ block_version log h.block (contains_at (blocks_of log) k h.block h.here)

-- a session was read of the block
session_of : (log : List ℕ) (k : ℕ) (p : Piece) (s : ClientSession) → IsPiece log k p → IsRead p → p.outcome ≡ Ok s → (b : Block) × (slice_get (blocks_of log) k ≡ Some b) × (block_fault log b ≡ None) × IsLegal s × IsHeldBy (version_of log) s × (block_text log b ≡ session_text s)
session_of log k p s h r o =
    let got = subst (IsOutcome p.version p.text p.line) o r.outcome in
    (h.block, h.here, fault_in log k p h ∙ got.0, got.1, subst (λ v. IsHeldBy v s) (version_in log k p h) got.2, sym h.piece.text ∙ got.3)

-- a fault was found in the block
fault_of : (log : List ℕ) (k : ℕ) (p : Piece) (f : LogFault) → IsPiece log k p → IsRead p → p.outcome ≡ Err f → (b : Block) × (slice_get (blocks_of log) k ≡ Some b) × (block_fault log b ≡ Some f)
fault_of log k p f h r o = grind (arith, fault_in)

module _ {A B C : Type 0} (f : A → C) (g : B → C) where
  -- one more of both lists
  one_more : (xs : List A) (ys : List B) (k : ℕ) (x : A) (y : B) → slice_get xs k ≡ Some x → map f (take k xs) ≡ map g ys → f x ≡ g y → map f (take (suc k) xs) ≡ map g (ys ++ y ∷ [])
  one_more xs ys k x y e h same =
      ap (map f) (take_at xs k x e) ∙ map-append f (take k xs) (x ∷ []) ∙ ap (λ l. l ++ f x ∷ []) h ∙ ap (λ c. map g ys ++ c ∷ []) same ∙ sym (map-append g ys (y ∷ []))

module _ {A : Type 0} (h : A → Option LogFault) where
  -- the first fault lies further on
  further : (xs : List A) (k : ℕ) (x : A) (whole : Option LogFault) → slice_get xs k ≡ Some x → h x ≡ None → whole ≡ first_of (map h (drop k xs)) → whole ≡ first_of (map h (drop (suc k) xs))
  further xs k x whole e none i = i ∙ ap (λ l. first_of (map h l)) (drop_at xs k x e) ∙ ap (λ o. first_of (o ∷ map h (drop (suc k) xs))) none

  -- the first fault is here
  here : (xs : List A) (k : ℕ) (x : A) (whole : Option LogFault) (f : LogFault) → slice_get xs k ≡ Some x → h x ≡ Some f → whole ≡ first_of (map h (drop k xs)) → whole ≡ Some f
  here xs k x whole f e some i = i ∙ ap (λ l. first_of (map h l)) (drop_at xs k x e) ∙ ap (λ o. first_of (o ∷ map h (drop (suc k) xs))) some

-- the first k blocks were read as these sessions
pub record IsReadTo (log : List ℕ) (k : ℕ) (ss : List ClientSession) : Type 0 where
  pub legal : AllByRecursion IsLegal ss
  pub held : AllByRecursion (IsHeldBy (version_of log)) ss
  pub texts : map (block_text log) (take k (blocks_of log)) ≡ map session_text ss
  pub fault : grammar_fault log ≡ first_of (map (block_fault log) (drop k (blocks_of log)))

pub none_read : (log : List ℕ) → IsReadTo log 0 []
none_read log = record { legal = tt; held = tt; texts = refl; fault = fault_by_blocks log }

one_more_read : (log : List ℕ) (k : ℕ) (ss : List ClientSession) (p : Piece) (s : ClientSession) → IsReadTo log k ss → IsPiece log k p → IsRead p → p.outcome ≡ Ok s → IsReadTo log (suc k) (ss ++ s ∷ [])
one_more_read log k ss p s h piece r o =
    let x = session_of log k p s piece r o in
    let b = x.0 in record {
      legal = all_push IsLegal ss s h.legal x.3;
      held = all_push (IsHeldBy (version_of log)) ss s h.held x.4;
      texts = one_more (block_text log) session_text (blocks_of log) ss k b s x.1 h.texts x.5;
      fault = further (block_fault log) (blocks_of log) k b (grammar_fault log) x.1 x.2 h.fault;
    }

-- the block after those that were seen was read as this session
pub one_read : {X : Type 0} (log : List ℕ) (seen : List X) (x : X) (items now : List Session) (p : Piece) (s : Session) → IsReadTo log (length seen) (map view items) → IsPiece log (length seen) p → IsRead p → p.outcome ≡ Ok (view s) → now ≡ items ++ s ∷ [] → IsReadTo log (length (seen ++ x ∷ [])) (map view now)
one_read log seen x items now p s h piece r o is =
    let read = one_more_read log (length seen) (map view items) p (view s) h piece r o in
    let viewed : map view items ++ view s ∷ [] ≡ map view now = sym (map-append view items (s ∷ [])) ∙ ap (map view) (sym is) in
    subst (λ k. IsReadTo log k (map view now)) (sym (length_push seen x)) (subst (IsReadTo log (suc (length seen))) viewed read)

pub one_refused : (log : List ℕ) (k : ℕ) (ss : List ClientSession) (p : Piece) (f : LogFault) → IsReadTo log k ss → IsPiece log k p → IsRead p → p.outcome ≡ Err f → IsFault f (grammar_fault log)
one_refused log k ss p f h piece r o =
    let x = fault_of log k p f piece r o in
    this_fault f (grammar_fault log) (here (block_fault log) (blocks_of log) k x.0 (grammar_fault log) f x.1 x.2 h.fault)

pub all_read : (log : List ℕ) (k : ℕ) (ss : List ClientSession) → IsReadTo log k ss → length (blocks_of log) ≤ k → log ≡ log_text (version_of log) ss
all_read log k ss h e = joined log ss (ap (map (block_text log)) (sym (take_all k (blocks_of log) e)) ∙ h.texts)
