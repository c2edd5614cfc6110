use Rattle.cobra_calls.proofs.Prelude.{[], ◌∷◌, subst, refl, IfErr-weaker, on_ok_weaker, File, Adds, FailsAt, IsUnwritten}
use Rattle.cobra_calls.proofs.Cuts.{file_is, adds_both, cut_at, cut_behind}
use Rattle.cobra_calls.proofs.audits.put_part.Goals as goal

pub returns-in-Err-clause-unwritten : goal.returns-in-Err-clause-unwritten
returns-in-Err-clause-unwritten g c =
    let it = c.in-Some-part.part in
    let path = c.in-Some.path.now in
    let log : File = (path, it.log.items) in
    let map : File = (c.args.map.now, it.map.items) in
    let old = g.F.NewFiles.files c.args.files.now in
    let new = g.F.NewFiles.files c.put_file.new.files in
    let is = file_is path path c.deref.result.now it.log.items refl c.deref.ensures.value in
    let cut = subst (λ (f : File). FailsAt old new f) is c.in-Err.ensures.unwritten.0 in
    rw (c.in-Some.is, c.in-Some-part.is) (cut_at log (map ∷ []) old new c.in-Err.ending cut c.in-Err.ensures.unwritten.1)

pub returns-in_default-put_file-clause-put : goal.returns-in_default-put_file-clause-put
returns-in_default-put_file-clause-put g c =
    let it = c.in-Some-part.part in
    let path = c.in-Some.path.now in
    let log : File = (path, it.log.items) in
    let map : File = (c.args.map.now, it.map.items) in
    let old = g.F.NewFiles.files c.args.files.now in
    let mid = g.F.NewFiles.files c.put_file.new.files in
    let new = g.F.NewFiles.files c.put_file-in-Some-part.new.files in
    let is_log = file_is path path c.deref.result.now it.log.items refl c.deref.ensures.value in
    let is_map = file_is c.args.map.now c.args.map.now c.deref-in-Some-part.result.now it.map.items refl c.deref-in-Some-part.ensures.value in
    let first = subst (λ (f : File). Adds old mid (f ∷ [])) is_log c.in_default-put_file.ensures.put in
    rw (c.in-Some.is, c.in-Some-part.is) (on_ok_weaker c.put_file-in-Some-part.result (λ put. adds_both old mid new (log ∷ []) (map ∷ []) first (subst (λ (f : File). Adds mid new (f ∷ [])) is_map put)) c.put_file-in-Some-part.ensures.put)

pub returns-in_default-put_file-clause-unwritten : goal.returns-in_default-put_file-clause-unwritten
returns-in_default-put_file-clause-unwritten g c =
    let it = c.in-Some-part.part in
    let path = c.in-Some.path.now in
    let log : File = (path, it.log.items) in
    let map : File = (c.args.map.now, it.map.items) in
    let old = g.F.NewFiles.files c.args.files.now in
    let mid = g.F.NewFiles.files c.put_file.new.files in
    let new = g.F.NewFiles.files c.put_file-in-Some-part.new.files in
    let is_log = file_is path path c.deref.result.now it.log.items refl c.deref.ensures.value in
    let is_map = file_is c.args.map.now c.args.map.now c.deref-in-Some-part.result.now it.map.items refl c.deref-in-Some-part.ensures.value in
    let first = subst (λ (f : File). Adds old mid (f ∷ [])) is_log c.in_default-put_file.ensures.put in
    rw (c.in-Some.is, c.in-Some-part.is) (IfErr-weaker c.put_file-in-Some-part.result _ (IsUnwritten (log ∷ map ∷ []) old new)
    (λ e h. cut_behind (log ∷ []) (map ∷ []) old mid new e first (cut_at map [] mid new e (subst (λ (f : File). FailsAt mid new f) is_map h.0) h.1)) c.put_file-in-Some-part.ensures.unwritten)
