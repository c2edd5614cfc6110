-- Files that are written one after the other, of which one fails.
use Rattle.cobra_calls.proofs.Prelude.{◌≡◌, ℕ, List, [], ◌∷◌, ◌++◌, Option, Some, None, refl, sym, ap, ◌∙◌, append_assoc, append-nil, Ending, IsUnusable, File, Disk, Grows, Adds, FailsAt, IsUnwritten}

pub file_is : (a b x y : List ℕ) → a ≡ b → x ≡ y → (let f : File = (a, x) in f) ≡ (b, y)
file_is a b x y e h = ap (λ n. let f : File = (n, x) in f) e ∙ ap (λ m. let f : File = (b, m) in f) h

grows_both : (a b c : Option (List File)) (xs ys : List File) → Grows a b xs → Grows b c ys → Grows a c (xs ++ ys)
grows_both None b c xs ys h k = tt
grows_both (Some fs) None c xs ys h k = absurd h
grows_both (Some fs) (Some gs) None xs ys h k = absurd k
grows_both (Some fs) (Some gs) (Some hs) xs ys h k = k ∙ ap (λ l. l ++ ys) h ∙ append_assoc fs xs ys

grows_none : (a : Option (List File)) → Grows a a []
grows_none None = tt
grows_none (Some fs) = sym (append-nil fs)

pub adds_both : (a b c : Disk) (xs ys : List File) → Adds a b xs → Adds b c ys → Adds a c (xs ++ ys)
adds_both a b c xs ys h k = record { files = grows_both a.files b.files c.files xs ys h.files k.files; failures = k.failures ∙ h.failures }

pub cut_at : (file : File) (back : List File) (old new : Disk) (e : Ending) → FailsAt old new file → IsUnusable file.0 e → IsUnwritten (file ∷ back) old new e
cut_at file back old new e h told = record {
  front = [];
  failed = file;
  back = back;
  all = refl;
  between = old;
  written = record { files = grows_none old.files; failures = refl };
  cut = h;
  told = told;
}

pub cut_before : (xs ys : List File) (old new : Disk) (e : Ending) → IsUnwritten xs old new e → IsUnwritten (xs ++ ys) old new e
cut_before xs ys old new e h = record {
  front = h.front;
  failed = h.failed;
  back = h.back ++ ys;
  all = ap (λ l. l ++ ys) h.all ∙ append_assoc h.front (h.failed ∷ h.back) ys;
  between = h.between;
  written = h.written;
  cut = h.cut;
  told = h.told;
}

pub cut_behind : (xs ys : List File) (old mid new : Disk) (e : Ending) → Adds old mid xs → IsUnwritten ys mid new e → IsUnwritten (xs ++ ys) old new e
cut_behind xs ys old mid new e a h = record {
  front = xs ++ h.front;
  failed = h.failed;
  back = h.back;
  all = ap (λ l. xs ++ l) h.all ∙ sym (append_assoc xs h.front (h.failed ∷ h.back));
  between = h.between;
  written = adds_both old mid h.between xs h.front a h.written;
  cut = h.cut;
  told = h.told;
}
