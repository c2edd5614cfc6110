-- What each node reads, read by read.
use Rattle.session_history.proofs.Prelude.{◌≡◌, ℕ, suc, ◌+◌, ◌<◌, Bool, true, false, cond, List, [], ◌∷◌, ◌++◌, length, map, take, get_or, set, slice_get, Some, refl, sym, ap, subst, ◌∙◌, arith, append_assoc, nat_eq, Vec, Global}
use Rattle.session_history.proofs.Prelude.{option_map, eqb-true, eqb-false, eq-eqb, ne_eqb, append-nil, map-append, length-map, length-take, length-set, take_more, ReadFrom, KeyRow, Reader, reader_view, AreReads, reads_view, found_by}
use Rattle.session_history.proofs.Prelude.{readers_of}
use Rattle.session_history.specs.Sources.{found_in}
use Rattle.session_history.proofs.KeyRows.{slice_get-set_here, slice_get-set_apart}

pub reads_same : (n : ℕ) (f g : ℕ → List (ℕ × ℕ)) (reads : List (Vec ReadFrom Global)) → ((v : ℕ) → f v ≡ g v) → AreReads n f reads → AreReads n g reads
reads_same n f g reads e h = record {
  count = h.count;
  each = λ i lt. h.each i lt ∙ ap (λ r. Some r) (e (i + 1));
}

-- one read more
pub read_added : (n : ℕ) (g : ℕ → List (ℕ × ℕ)) (reads : List (Vec ReadFrom Global)) (old new : Vec ReadFrom Global) (node k : ℕ) (read : ReadFrom)
    → node ≡ k + 1 → k < length reads → slice_get reads k ≡ Some old → new.items ≡ old.items ++ read ∷ []
    → AreReads n g reads → AreReads n (λ v. g v ++ cond (nat_eq node v) ((read.key, read.source) ∷ []) []) (set reads k new)
read_added n g reads old new node k read number within at pushed h = record {
  count = length-set reads k new ∙ h.count;
  each = λ i lt. go i lt (nat_eq k i) refl;
}
  where
    some_same : (a b : List (ℕ × ℕ)) → Some a ≡ Some b → a ≡ b
    some_same a b e = cc

    go : (i : ℕ) → i < n → (b : Bool) → nat_eq k i ≡ b → option_map (λ r. reads_view r.items) (slice_get (set reads k new) i) ≡ Some (g (i + 1) ++ cond (nat_eq node (i + 1)) ((read.key, read.source) ∷ []) [])
    go i lt true same =
        let is = eqb-true k i same in
        let P : ℕ → Type 0 = λ j. option_map (λ r. reads_view r.items) (slice_get (set reads k new) j) ≡ Some (g (j + 1) ++ cond (nat_eq node (j + 1)) ((read.key, read.source) ∷ []) []) in
        let below : k < n = omega (arith, is, lt) in
        let was : reads_view old.items ≡ g (k + 1) = some_same _ _ (sym (ap (option_map (λ r. reads_view r.items)) at) ∙ h.each k below) in
        subst P is (ap (option_map (λ r. reads_view r.items)) (slice_get-set_here reads k new within)
        ∙ ap (λ r. Some r) (ap reads_view pushed ∙ map-append (λ r. (r.key, r.source)) old.items (read ∷ []) ∙ ap (λ r. r ++ (read.key, read.source) ∷ []) was
        ∙ ap (λ b. g (k + 1) ++ cond b ((read.key, read.source) ∷ []) []) (sym (eq-eqb node (k + 1) number))))
    go i lt false apart = ap (option_map (λ r. reads_view r.items)) (slice_get-set_apart reads k i new apart) ∙ h.each i lt
        ∙ ap (λ r. Some r) (sym (ap (λ b. g (i + 1) ++ cond b ((read.key, read.source) ∷ []) []) (ne_eqb node (i + 1) (λ same. eqb-false k i apart (omega (arith, same, number)))) ∙ append-nil (g (i + 1))))

found_by-append : (x : ℕ) (source : ℕ → ℕ) (v : ℕ) (a b : List (ℕ × ℕ)) → found_by x source v (a ++ b) ≡ found_by x source v a ++ found_by x source v b
found_by-append x source v [] b = refl
found_by-append x source v (r ∷ a) b =
    ap (λ l. cond (nat_eq r.0 v) ((x, source r.1) ∷ []) [] ++ l) (found_by-append x source v a b)
    ∙ sym (append_assoc (cond (nat_eq r.0 v) ((x, source r.1) ∷ []) []) (found_by x source v a) (found_by x source v b))

found_in-append : (x : ℕ) (source : ℕ → ℕ → ℕ) (v : ℕ) (a b : List (List (ℕ × ℕ))) → found_in x source v (a ++ b) ≡ found_in x source v a ++ found_in (x + length a) source v b
found_in-append x source v [] b = ap (λ y. found_in y source v b) (omega arith)
found_in-append x source v (r ∷ a) b =
    ap (λ l. found_by x (source x) v r ++ l) (found_in-append (x + 1) source v a b ∙ ap (λ y. found_in (x + 1) source v a ++ found_in y source v b) (omega arith))
    ∙ sym (append_assoc (found_by x (source x) v r) (found_in (x + 1) source v a) (found_in (x + suc (length a)) source v b))

-- one reader more
pub reader_more : (n x : ℕ) (source : ℕ → ℕ) (g : ℕ → List (ℕ × ℕ)) (readers : List Reader) (i : ℕ) (r d : Reader) (reads : List (Vec ReadFrom Global)) → i < length readers → get_or readers i d ≡ r
    → AreReads n (λ v. (g v ++ found_by x source v (map reader_view (take i readers))) ++ cond (nat_eq r.node v) ((x, source r.wid) ∷ []) []) reads
    → AreReads n (λ v. g v ++ found_by x source v (map reader_view (take (i + 1) readers))) reads
reader_more n x source g readers i r d reads h at so_far =
    reads_same n _ _ reads (λ v.
    append_assoc (g v) (found_by x source v (map reader_view (take i readers))) (cond (nat_eq r.node v) ((x, source r.wid) ∷ []) [])
    ∙ ap (λ l. g v ++ l) (ap (λ l. found_by x source v (map reader_view (take i readers)) ++ l) (sym (append-nil (cond (nat_eq r.node v) ((x, source r.wid) ∷ []) [])))
    ∙ sym (found_by-append x source v (map reader_view (take i readers)) (reader_view r ∷ []))
    ∙ ap (found_by x source v) (sym (ap (map reader_view) (take_more readers i d h ∙ ap (λ y. take i readers ++ y ∷ []) at) ∙ map-append reader_view (take i readers) (r ∷ [])))))
    so_far

-- one key more
pub key_more : (n : ℕ) (source : ℕ → ℕ → ℕ) (rows : List KeyRow) (x : ℕ) (row : KeyRow) (passed : List Reader) (reads : List (Vec ReadFrom Global)) → x < length rows → row ≡ get_or rows x row → passed ≡ row.readers.items
    → AreReads n (λ v. found_in 0 source v (map readers_of (take x rows)) ++ found_by x (source x) v (map reader_view passed)) reads
    → AreReads n (λ v. found_in 0 source v (map readers_of (take (x + 1) rows))) reads
key_more n source rows x row passed reads h at is so_far =
    let some = map readers_of (take x rows) in
    let count : length some ≡ x = length-map (take x rows) readers_of ∙ length-take x rows ∙ omega arith in
    reads_same n _ _ reads (λ v.
    ap (λ l. found_in 0 source v some ++ l) (ap (λ rs. found_by x (source x) v (map reader_view rs)) is ∙ sym (append-nil (found_by x (source x) v (readers_of row)))
    ∙ ap (λ y. found_in y source v (readers_of row ∷ [])) (omega (arith, count)))
    ∙ sym (found_in-append 0 source v some (readers_of row ∷ []))
    ∙ ap (found_in 0 source v) (sym (ap (map readers_of) (take_more rows x row h ∙ ap (λ y. take x rows ++ y ∷ []) (sym at)) ∙ map-append readers_of (take x rows) (row ∷ []))))
    so_far
