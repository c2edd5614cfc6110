-- A line has a form exactly where it is that form's text.
use Rattle.session_log.proofs.Prelude.{◌≡◌, ◌⊎◌, inl, inr, ℕ, zero, ◌+◌, ◌<◌, ◌^◌, suc, Bool, true, false, not, cond, eqb, List, [], ◌∷◌, ◌++◌, length, get_or, take, drop, nat_lt, nat_le, nat_eq, if◌then◌else◌, Option, Some, None, refl}
use Rattle.session_log.proofs.Prelude.{sym, ap, ◌∙◌, arith, ◌==◌, ◌&&◌, ◌||◌, position, subst, codes, append_assoc, length-append, option_and_then, slice_index, position_or_len, list_all, starts_with, is_ascii_digit, decimal, digits_value}
use Rattle.session_log.proofs.Prelude.{ltb-true, leb-true, le-leb, lt-ltb, eqb-true, eq-eqb, and_parts, and_from, or_cases, or_left, or_right, not-true, not_from_false, ne_eqb, cond-true, false≢true, Decides-eqb, bytes_eq-Decides}
use Rattle.session_log.proofs.Prelude.{starts_is, decimal-digits_value, digits_decimal, digits_value-decimal, decimal_nonempty, first_decimal, decimal_digit, take_at, drop_at, is_key, IsKey, is_key_byte, is_numeral, number_of, session_of}
use Rattle.session_log.proofs.Prelude.{keyed_of, form_of, line_text, IsLegalLine, Line, Version, One, Two, Three, has_unknown_line, has_moments}
use Rattle.std.specs.Str.{bytes_eq}
use Rattle.std.proofs.lemmas.Option.{cond_some, option_and_then_some, same_Some}
use Rattle.session_log.proofs.Digits.{own}
use Rattle.session_log.proofs.Lines.{split_at_space}
use Rattle.session_log.specs.declared.line.Line.TheVariants as line

-- numbers

leading : (w : List ℕ) → (length w == 1 || not (slice_index w 0 == 48)) ≡ true → get_or w 0 0 ≡ 48 → length w ≡ 1
leading w h z = either (or_cases (length w == 1) (not (slice_index w 0 == 48)) h)
  where
    either : (((length w == 1) ≡ true) ⊎ (not (slice_index w 0 == 48) ≡ true)) → length w ≡ 1
    either (inl e) = eqb-true (length w) 1 e
    either (inr e) = absurd (ne (not-true (slice_index w 0 == 48) e))
      where
        ne : (slice_index w 0 == 48) ≡ false → ⊥
        ne f = cc (f, eq-eqb (get_or w 0 0) 48 z)

pub number_sound : (w : List ℕ) (n : ℕ) → number_of w ≡ Some n → (w ≡ decimal n) × (n < 2 ^ 64)
unfolding number_of
number_sound w n e =
    let found = cond_some (is_numeral w && nat_lt (digits_value 10 w) (2 ^ 64)) (digits_value 10 w) n e in
    let parts = and_parts (is_numeral w) (nat_lt (digits_value 10 w) (2 ^ 64)) found.0 in
    let outer = and_parts (list_all is_ascii_digit w && nat_le 1 (length w)) (length w == 1 || not (slice_index w 0 == 48)) parts.0 in
    let inner = and_parts (list_all is_ascii_digit w) (nat_le 1 (length w)) outer.0 in
    let small = ltb-true (digits_value 10 w) (2 ^ 64) parts.1 in
    let some = leb-true 1 (length w) inner.1 in
    let same = decimal-digits_value own w inner.0 (omega arith) (leading w outer.1) small in
    (sym same ∙ ap decimal found.1, omega (arith, found.1, small))

leads : (n : ℕ) → n < 2 ^ 64 → (length (decimal n) == 1 || not (slice_index (decimal n) 0 == 48)) ≡ true
leads zero h = or_left (length (decimal 0) == 1) (not (slice_index (decimal 0) 0 == 48)) (eq-eqb (length (decimal 0)) 1 (ap length (decimal_digit 0 (omega arith))))
leads (suc n) h =
    let above = first_decimal (suc n) (omega arith) h in
    or_right (length (decimal (suc n)) == 1) (not (slice_index (decimal (suc n)) 0 == 48)) (not_from_false (slice_index (decimal (suc n)) 0 == 48) (ne_eqb (slice_index (decimal (suc n)) 0) 48 (λ e. omega (arith, above, e))))

pub number_complete : (n : ℕ) → n < 2 ^ 64 → number_of (decimal n) ≡ Some n
unfolding number_of
number_complete n h =
    let value = digits_value-decimal own n h in
    let numeral : is_numeral (decimal n) ≡ true = and_from (list_all is_ascii_digit (decimal n) && nat_le 1 (length (decimal n))) (length (decimal n) == 1 || not (slice_index (decimal n) 0 == 48)) (and_from (list_all is_ascii_digit (decimal n)) (nat_le 1 (length (decimal n))) (digits_decimal own n h) (le-leb 1 (length (decimal n)) (decimal_nonempty n h))) (leads n h) in
    let fits : nat_lt (digits_value 10 (decimal n)) (2 ^ 64) ≡ true = lt-ltb (digits_value 10 (decimal n)) (2 ^ 64) (omega (arith, value, h)) in
    cond-true (is_numeral (decimal n) && nat_lt (digits_value 10 (decimal n)) (2 ^ 64)) (Some (digits_value 10 (decimal n))) None (and_from (is_numeral (decimal n)) (nat_lt (digits_value 10 (decimal n)) (2 ^ 64)) numeral fits) ∙ ap (λ m. Some m) value

-- a key has no space
space-key_byte : is_key_byte 32 ≡ false
unfolding is_key_byte
space-key_byte = refl

key_end : (k xs : List ℕ) → list_all is_key_byte k ≡ true → position_or_len (λ b. b == 32) (k ++ 32 ∷ xs) ≡ length k
key_end [] xs h = refl
key_end (b ∷ k) xs h =
    let parts = and_parts (is_key_byte b) (list_all is_key_byte k) h in
    let ne : eqb b 32 ≡ false = ne_eqb b 32 (λ e. absurd (cc (ap is_key_byte e, parts.0, space-key_byte))) in
    let ih = key_end k xs parts.1 in
    rw ne (omega (arith, ih))

keyed_sound : (ws : List ℕ) (k : List ℕ) (n : ℕ) → keyed_of ws ≡ Some (k, n) → (ws ≡ k ++ 32 ∷ decimal n) × IsKey k × (n < 2 ^ 64)
unfolding keyed_of
keyed_sound ws k n e =
    option_and_then_some (λ i. option_and_then (λ wid. if is_key (take i ws) then Some (take i ws, wid) else None) (number_of (drop (i + 1) ws))) (position (λ b. b == 32) ws) (k, n) e
    (λ i at rest. option_and_then_some (λ wid. if is_key (take i ws) then Some (take i ws, wid) else None) (number_of (drop (i + 1) ws)) (k, n) rest
    (λ wid num last.
    let key = cond_some (is_key (take i ws)) (take i ws, wid) (k, n) last in
    let number = number_sound (drop (i + 1) ws) wid num in
    let split = split_at_space ws i (sym at) in
    let first : take i ws ≡ k = ap (λ (p : List ℕ × ℕ). p.0) key.1 in
    let second : wid ≡ n = ap (λ (p : List ℕ × ℕ). p.1) key.1 in
    (split ∙ cc (first, number.0, ap decimal second), subst (λ x. is_key x ≡ true) first key.0, omega (arith, number.1, second))))

pub after_key : (k d : List ℕ) → drop (length k + 1) (k ++ 32 ∷ d) ≡ d
after_key k d = ap (drop (length k + 1)) (sym (append_assoc k (32 ∷ []) d)) ∙ drop_at (k ++ 32 ∷ []) d (length k + 1) (simp length-append)

keyed_complete : (k : List ℕ) (n : ℕ) → IsKey k → n < 2 ^ 64 → keyed_of (k ++ 32 ∷ decimal n) ≡ Some (k, n)
unfolding keyed_of
keyed_complete k n h fits =
    let ws : List ℕ = k ++ 32 ∷ decimal n in
    let all = (and_parts (nat_le 1 (length k) && nat_le (length k) 64) (list_all is_key_byte k) h).1 in
    let end : position_or_len (λ b. b == 32) (k ++ 32 ∷ decimal n) ≡ length k = key_end k (decimal n) all in
    let room : length k < length (k ++ 32 ∷ decimal n) = simp length-append (omega arith) in
    let at : position (λ b. b == 32) (k ++ 32 ∷ decimal n) ≡ Some (length k) =
    cond-true (nat_lt (position_or_len (λ b. b == 32) (k ++ 32 ∷ decimal n)) (length (k ++ 32 ∷ decimal n))) (Some (position_or_len (λ b. b == 32) (k ++ 32 ∷ decimal n))) None (lt-ltb (position_or_len (λ b. b == 32) (k ++ 32 ∷ decimal n)) (length (k ++ 32 ∷ decimal n)) (omega (arith, end, room))) ∙ ap (λ i. Some i) end in
    let rest = after_key k (decimal n) in
    let front = take_at k (32 ∷ decimal n) (length k) refl in
    let num = number_complete n fits in
    rw (at, rest, num, front, h) refl

session_sound : (w : List ℕ) (f : Line) → session_of w ≡ Some f → (n : ℕ) × (f ≡ line.Session n) × (w ≡ decimal n) × (0 < n) × (n < 2 ^ 16)
unfolding session_of
session_sound w f e =
    option_and_then_some (λ n. if nat_le 1 n && nat_lt n (2 ^ 16) then Some (line.Session n) else None) (number_of w) f e
    (λ n num last.
    let found = cond_some (nat_le 1 n && nat_lt n (2 ^ 16)) (line.Session n) f last in
    let parts = and_parts (nat_le 1 n) (nat_lt n (2 ^ 16)) found.0 in
    let low = leb-true 1 n parts.0 in
    (n, sym found.1, (number_sound w n num).0, omega (arith, low), ltb-true n (2 ^ 16) parts.1))

session_complete : (n : ℕ) → 0 < n → n < 2 ^ 16 → session_of (decimal n) ≡ Some (line.Session n)
unfolding session_of
session_complete n low high =
    let num = number_complete n (omega arith) in
    let a = le-leb 1 n (omega arith) in
    let b = lt-ltb n (2 ^ 16) high in
    rw (num, a, b) refl

-- the law
abbrev Sound : Version → List ℕ → Line → Type 0
Sound v body f = (body ≡ line_text f) × IsLegalLine v f

chosen : {A : Type 0} (b : Bool) (x y z : A) → cond b x y ≡ z → ((b ≡ true) × (x ≡ z)) ⊎ ((b ≡ false) × (y ≡ z))
chosen true x y z e = inl (refl, e)
chosen false x y z e = inr (refl, e)

word_sound : (v : Version) (body word : List ℕ) (f g : Line) → bytes_eq body word ≡ true → Some g ≡ Some f → word ≡ line_text g → IsLegalLine v g → Sound v body f
word_sound v body word f g b e text legal =
    let same = (bytes_eq-Decides body word).0 b in
    subst (Sound v body) (same_Some g f e) (same ∙ text, legal)

session_line_sound : (v : Version) (body : List ℕ) (f : Line) → starts_with nat_eq body (codes "session ") ≡ true → session_of (drop 8 body) ≡ Some f → Sound v body f
unfolding line_text
session_line_sound v body f b e =
    let split = (starts_is Decides-eqb body (codes "session ") (starts_with nat_eq body (codes "session ")) refl).0 b in
    let s = session_sound (drop 8 body) f e in
    subst (Sound v body) (sym s.1) (split ∙ ap (λ w. codes "session " ++ w) s.2, (s.3, s.4))

read_line_sound : (v : Version) (body : List ℕ) (f : Line) → starts_with nat_eq body (codes "r ") ≡ true → option_and_then (λ (k : List ℕ × ℕ). Some (line.Read k.0 k.1)) (keyed_of (drop 2 body)) ≡ Some f → Sound v body f
unfolding line_text
read_line_sound v body f b e =
    let split = (starts_is Decides-eqb body (codes "r ") (starts_with nat_eq body (codes "r ")) refl).0 b in
    option_and_then_some (λ (k : List ℕ × ℕ). Some (line.Read k.0 k.1)) (keyed_of (drop 2 body)) f e
    (λ k got last.
    let s = keyed_sound (drop 2 body) k.0 k.1 got in
    subst (Sound v body) (same_Some (line.Read k.0 k.1) f last) (split ∙ ap (λ w. codes "r " ++ w) s.0, (s.1, s.2)))

write_line_sound : (v : Version) (body : List ℕ) (f : Line) → starts_with nat_eq body (codes "w ") ≡ true → option_and_then (λ (k : List ℕ × ℕ). Some (line.Write k.0 k.1)) (keyed_of (drop 2 body)) ≡ Some f → Sound v body f
unfolding line_text
write_line_sound v body f b e =
    let split = (starts_is Decides-eqb body (codes "w ") (starts_with nat_eq body (codes "w ")) refl).0 b in
    option_and_then_some (λ (k : List ℕ × ℕ). Some (line.Write k.0 k.1)) (keyed_of (drop 2 body)) f e
    (λ k got last.
    let s = keyed_sound (drop 2 body) k.0 k.1 got in
    subst (Sound v body) (same_Some (line.Write k.0 k.1) f last) (split ∙ ap (λ w. codes "w " ++ w) s.0, (s.1, s.2)))

-- by the tests of `form_of`, from the last
w_sound : (v : Version) (body : List ℕ) (f : Line) (rest : Option Line) → (rest ≡ Some f → Sound v body f) → cond (starts_with nat_eq body (codes "w ")) (option_and_then (λ (k : List ℕ × ℕ). Some (line.Write k.0 k.1)) (keyed_of (drop 2 body))) rest ≡ Some f → Sound v body f
w_sound v body f rest go e =
    elim (chosen (starts_with nat_eq body (codes "w ")) (option_and_then (λ (k : List ℕ × ℕ). Some (line.Write k.0 k.1)) (keyed_of (drop 2 body))) rest (Some f) e)
    [ inl h ↦ write_line_sound v body f h.0 h.1 | inr h ↦ go h.1 ]

r_sound : (v : Version) (body : List ℕ) (f : Line) (rest : Option Line) → (rest ≡ Some f → Sound v body f) → cond (starts_with nat_eq body (codes "r ")) (option_and_then (λ (k : List ℕ × ℕ). Some (line.Read k.0 k.1)) (keyed_of (drop 2 body))) rest ≡ Some f → Sound v body f
r_sound v body f rest go e =
    elim (chosen (starts_with nat_eq body (codes "r ")) (option_and_then (λ (k : List ℕ × ℕ). Some (line.Read k.0 k.1)) (keyed_of (drop 2 body))) rest (Some f) e)
    [ inl h ↦ read_line_sound v body f h.0 h.1 | inr h ↦ go h.1 ]

s_sound : (v : Version) (body : List ℕ) (f : Line) (rest : Option Line) → (rest ≡ Some f → Sound v body f) → cond (starts_with nat_eq body (codes "session ")) (session_of (drop 8 body)) rest ≡ Some f → Sound v body f
s_sound v body f rest go e =
    elim (chosen (starts_with nat_eq body (codes "session ")) (session_of (drop 8 body)) rest (Some f) e)
    [ inl h ↦ session_line_sound v body f h.0 h.1 | inr h ↦ go h.1 ]

word_or : (v : Version) (body word : List ℕ) (f g : Line) (rest : Option Line) → word ≡ line_text g → IsLegalLine v g → (rest ≡ Some f → Sound v body f) → cond (bytes_eq body word) (Some g) rest ≡ Some f → Sound v body f
word_or v body word f g rest text legal go e =
    elim (chosen (bytes_eq body word) (Some g) rest (Some f) e)
    [ inl h ↦ word_sound v body word f g h.0 h.1 text legal | inr h ↦ go h.1 ]

-- the lines that not each version has
unknown_sound : (v : Version) (body : List ℕ) (f : Line) (rest : Option Line) → (rest ≡ Some f → Sound v body f) → cond (has_unknown_line v && bytes_eq body (codes "unknown")) (Some line.Unknown) rest ≡ Some f → Sound v body f
unfolding line_text
unknown_sound v body f rest go e =
    elim (chosen (has_unknown_line v && bytes_eq body (codes "unknown")) (Some line.Unknown) rest (Some f) e) [
      | inl h ↦ let parts = and_parts (has_unknown_line v) (bytes_eq body (codes "unknown")) h.0 in
          word_sound v body (codes "unknown") f line.Unknown parts.1 h.1 refl parts.0
      | inr h ↦ go h.1
    ]

-- a word with a moment behind it, which `with_moment` makes a line of
moment_sound : (v : Version) (body word : List ℕ) (with_moment : ℕ → Line) (f : Line) → ((m : ℕ) → line_text (with_moment m) ≡ word ++ decimal m)
    → ((m : ℕ) → m < 2 ^ 64 → has_moments v ≡ true → IsLegalLine v (with_moment m))
    → (has_moments v && starts_with nat_eq body word) ≡ true → option_and_then (λ m. Some (with_moment m)) (number_of (drop (length word) body)) ≡ Some f → Sound v body f
moment_sound v body word with_moment f text legal b e =
    let parts = and_parts (has_moments v) (starts_with nat_eq body word) b in
    let split = (starts_is Decides-eqb body word (starts_with nat_eq body word) refl).0 parts.1 in
    option_and_then_some (λ m. Some (with_moment m)) (number_of (drop (length word) body)) f e
    (λ m got last.
    let s = number_sound (drop (length word) body) m got in
    subst (Sound v body) (same_Some (with_moment m) f last) (split ∙ (ap (λ w. word ++ w) s.0 ∙ sym (text m)), legal m s.1 parts.0))

begin_text : (m : ℕ) → line_text (line.Begin (Some m)) ≡ codes "begin " ++ decimal m
unfolding line_text
begin_text m = refl

commit_text : (m : ℕ) → line_text (line.Commit (Some m)) ≡ codes "commit " ++ decimal m
unfolding line_text
commit_text m = refl

begin_sound : (v : Version) (body : List ℕ) (f : Line) (rest : Option Line) → (rest ≡ Some f → Sound v body f) → cond (has_moments v && starts_with nat_eq body (codes "begin ")) (option_and_then (λ m. Some (line.Begin (Some m))) (number_of (drop 6 body))) rest ≡ Some f → Sound v body f
begin_sound v body f rest go e =
    elim (chosen (has_moments v && starts_with nat_eq body (codes "begin ")) (option_and_then (λ m. Some (line.Begin (Some m))) (number_of (drop 6 body))) rest (Some f) e)
    [ inl h ↦ moment_sound v body (codes "begin ") (λ m. line.Begin (Some m)) f begin_text (λ m small has. (small, has)) h.0 h.1 | inr h ↦ go h.1 ]

commit_sound : (v : Version) (body : List ℕ) (f : Line) → cond (has_moments v && starts_with nat_eq body (codes "commit ")) (option_and_then (λ m. Some (line.Commit (Some m))) (number_of (drop 7 body))) None ≡ Some f → Sound v body f
commit_sound v body f e =
    elim (chosen (has_moments v && starts_with nat_eq body (codes "commit ")) (option_and_then (λ m. Some (line.Commit (Some m))) (number_of (drop 7 body))) None (Some f) e)
    [ inl h ↦ moment_sound v body (codes "commit ") (λ m. line.Commit (Some m)) f commit_text (λ m small has. (small, has)) h.0 h.1 | inr h ↦ cc h.1 ]

pub form_sound : (v : Version) (body : List ℕ) (f : Line) → form_of v body ≡ Some f → (body ≡ line_text f) × IsLegalLine v f
unfolding form_of line_text
form_sound v body f e =
    word_or v body (codes "begin") f (line.Begin None) _ refl tt
    (word_or v body (codes "commit") f (line.Commit None) _ refl tt
    (word_or v body (codes "abort") f line.Abort _ refl tt
    (s_sound v body f _ (r_sound v body f _ (w_sound v body f _ (unknown_sound v body f _ (begin_sound v body f _ (commit_sound v body f)))))))) e

begin_complete : (v : Version) (m : ℕ) → m < 2 ^ 64 → has_moments v ≡ true → form_of v (line_text (line.Begin (Some m))) ≡ Some (line.Begin (Some m))
unfolding form_of line_text
begin_complete One m h has = absurd (false≢true has)
begin_complete Two m h has = absurd (false≢true has)
begin_complete Three m h has = rw (number_complete m h) refl

commit_complete : (v : Version) (m : ℕ) → m < 2 ^ 64 → has_moments v ≡ true → form_of v (line_text (line.Commit (Some m))) ≡ Some (line.Commit (Some m))
unfolding form_of line_text
commit_complete One m h has = absurd (false≢true has)
commit_complete Two m h has = absurd (false≢true has)
commit_complete Three m h has = rw (number_complete m h) refl

pub form_complete : (v : Version) (f : Line) → IsLegalLine v f → form_of v (line_text f) ≡ Some f
unfolding form_of line_text
form_complete v (line.Session n) h = session_complete n h.0 h.1
form_complete v (line.Begin None) h = refl
form_complete v (line.Begin (Some m)) h = begin_complete v m h.0 h.1
form_complete v (line.Read k n) h = rw (keyed_complete k n h.0 h.1) refl
form_complete v (line.Write k n) h = rw (keyed_complete k n h.0 h.1) refl
form_complete v (line.Commit None) h = refl
form_complete v (line.Commit (Some m)) h = commit_complete v m h.0 h.1
form_complete v line.Abort h = refl
form_complete v line.Unknown h = rw h refl
