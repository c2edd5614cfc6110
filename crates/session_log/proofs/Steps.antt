-- One line more, and what it does to the first fault.
use Rattle.session_log.proofs.Prelude.{◌≡◌, ℕ, ◌+◌, ◌<◌, ◌^◌, Bool, true, false, List, [], ◌∷◌, ◌++◌, length, Option, Some, None, Result, Ok, Err, refl, sym, ap, ◌∙◌, arith, codes, nat_eq, starts_with, lines, bytes_of, line_text}
use Rattle.session_log.proofs.Prelude.{text_of_lines, IsLegalLine, Place, Start, Between, Inside, Over, after, after_form, form_at, step, first_fault, is_session_line, IsBlock, NoSessionLine, IsFault, FailsAs, going_on, IsBodyLine, Line}
use Rattle.session_log.proofs.Prelude.{Version, LogFault, Adds, Takes, place_of, lines_of, fault_at_end, Reading, IfOk, IfErr, append-nil, flat_map-append}
use Rattle.session_log.specs.declared.line.Line.TheVariants as line
use Rattle.session_log.specs.declared.fault.LogFault.TheVariants as faults
use Rattle.session_log.proofs.Forms.{form_sound}

pub step_start : (v : Version) (n : ℕ) (l : List ℕ × Bool) → step v n Start l ≡ after_form n Start (form_at v l)
unfolding step
step_start v n l = refl

pub step_body : (v : Version) (n : ℕ) (p : Place) (l : List ℕ × Bool) → is_session_line l ≡ false → step v n p l ≡ after_form n p (form_at v l)
unfolding step
step_body v n Start l h = refl
step_body v n Between l h = refl
step_body v n (Inside b begun) l h = rw h refl
step_body v n Over l h = refl

-- a form that is not a session's, of a line that does not begin as one
session_starts : (k : ℕ) (body : List ℕ) → body ≡ line_text (line.Session k) → starts_with nat_eq body (codes "session") ≡ true
unfolding line_text
session_starts k body e = rw e refl

form_body : (v : Version) (body : List ℕ) (f : Line) → starts_with nat_eq body (codes "session") ≡ false → body ≡ line_text f → IsBodyLine f
form_body v body (line.Session k) h e = absurd (cc (session_starts k body e))
form_body v body (line.Begin m) h e = tt
form_body v body (line.Read k n) h e = tt
form_body v body (line.Write k n) h e = tt
form_body v body (line.Commit m) h e = tt
form_body v body line.Abort h e = tt
form_body v body line.Unknown h e = tt

pub body_line : (v : Version) (l : List ℕ × Bool) (f : Line) → is_session_line l ≡ false → form_at v l ≡ Some f → IsBodyLine f
body_line v (body, true) f h e = form_body v body f h (form_sound v body f e).0
body_line v (body, false) f h e = cc

-- the bytes and what they hold
pub form_bytes : (v : Version) (l : List ℕ × Bool) (f : Line) → form_at v l ≡ Some f → (bytes_of l ≡ line_text f ++ 10 ∷ []) × IsLegalLine v f
form_bytes v (body, true) f e = let s = form_sound v body f e in (ap (λ xs. xs ++ 10 ∷ []) s.0, s.1)
form_bytes v (body, false) f e = cc

-- going on, and stopping
pub fault_on : (v : Version) (n : ℕ) (p q : Place) (l : List ℕ × Bool) (ls rest : List (List ℕ × Bool)) → rest ≡ l ∷ ls → step v n p l ≡ Ok q → first_fault v n p rest ≡ first_fault v (n + 1) q ls
fault_on v n p q l ls rest e h = ap (first_fault v n p) e ∙ ap (λ r. going_on r (λ q. first_fault v (n + 1) q ls)) h

pub same_fault : (f : LogFault) (a b : Option LogFault) → a ≡ b → IsFault f b → IsFault f a
same_fault faults.Memory a b e h = tt
same_fault (faults.BadLine k) a b e h = e ∙ h
same_fault (faults.SessionTwice k) a b e h = e ∙ h
same_fault (faults.OutsideTransaction k) a b e h = e ∙ h
same_fault (faults.OpenTransaction k) a b e h = e ∙ h
same_fault (faults.WriteZero k) a b e h = e ∙ h
same_fault (faults.WriteTwice k) a b e h = e ∙ h
same_fault (faults.UnknownNotLast k) a b e h = e ∙ h
same_fault (faults.EndsBeforeBegin k) a b e h = e ∙ h
same_fault (faults.OverLimit k) a b e h = e ∙ h

-- a block is not empty
pub block_some : (text : List ℕ) → IsBlock (lines text) → 0 < length text
unfolding lines
block_some [] h = absurd h
block_some (b ∷ bs) h = omega arith

pub block_others : (l : List ℕ × Bool) (ls rest : List (List ℕ × Bool)) → rest ≡ l ∷ ls → IsBlock rest → NoSessionLine ls
block_others l ls rest e h = rw e at h

-- what `with_line` says, of the line as it stands
pub takes : (v : Version) (n : ℕ) (old : Reading) (l : List ℕ × Bool) (f : Line) (new : Reading) → is_session_line l ≡ false → Some f ≡ form_at v l → Adds n old f new → Takes v n old l new
takes v n old l f new h e adds =
    let b = form_bytes v l f (sym e) in
    record {
      place = step_body v n (place_of old) l h ∙ (ap (after_form n (place_of old)) (sym e) ∙ adds.place);
      text = ap text_of_lines adds.lines ∙ (flat_map-append (λ l. line_text l ++ 10 ∷ []) (lines_of old) (f ∷ []) ∙ ap (λ t. text_of_lines (lines_of old) ++ t) (append-nil (line_text f ++ 10 ∷ []) ∙ sym b.0));
      legal = λ before. adds.legal v before b.1;
    }

pub takes_ok : (v : Version) (n : ℕ) (old : Reading) (l : List ℕ × Bool) (f : Line) (r : Result Reading LogFault) → is_session_line l ≡ false → Some f ≡ form_at v l → IfOk r (λ new. Adds n old f new) → IfOk r (λ new. Takes v n old l new)
takes_ok v n old l f (Ok new) h e a = takes v n old l f new h e a
takes_ok v n old l f (Err x) h e a = tt

pub fails_ok : (v : Version) (n : ℕ) (p : Place) (l : List ℕ × Bool) (f : Line) (r : Result Reading LogFault) → is_session_line l ≡ false → Some f ≡ form_at v l → IfErr r (λ x. FailsAs x (after n p f)) → IfErr r (λ x. FailsAs x (step v n p l))
fails_ok v n p l f (Ok new) h e a = tt
fails_ok v n p l f (Err x) h e a = rw (step_body v n p l h, ← e) a

pub no_form : (v : Version) (n : ℕ) (p : Place) (l : List ℕ × Bool) → is_session_line l ≡ false → None ≡ form_at v l → step v n p l ≡ Err (faults.BadLine n)
no_form v n p l h e = step_body v n p l h ∙ ap (after_form n p) (sym e)

pub form_is_body : (v : Version) (l : List ℕ × Bool) (f : Line) → is_session_line l ≡ false → Some f ≡ form_at v l → IsBodyLine f
form_is_body v l f h e = body_line v l f h (sym e)

-- the end of the lines
pub fault_end : (v : Version) (n : ℕ) (p : Place) (rest : List ℕ) → 0 ≡ length rest → first_fault v n p (lines rest) ≡ fault_at_end p
unfolding lines
fault_end v n p [] e = refl
fault_end v n p (b ∷ bs) e = absurd (omega arith)

pub legal_header : (v : Version) (body : List ℕ) (ended : Bool) (k : ℕ) → form_at v (body, ended) ≡ Some (line.Session k) → (bytes_of (body, ended) ≡ line_text (line.Session k) ++ 10 ∷ []) × (0 < k) × (k < 2 ^ 16)
legal_header v body ended k e = let b = form_bytes v (body, ended) (line.Session k) e in (b.0, b.1.0, b.1.1)

pub step_header : (v : Version) (n : ℕ) (l : List ℕ × Bool) (k : ℕ) → form_at v l ≡ Some (line.Session k) → step v n Start l ≡ Ok Between
step_header v n l k e = step_start v n l ∙ ap (after_form n Start) e
