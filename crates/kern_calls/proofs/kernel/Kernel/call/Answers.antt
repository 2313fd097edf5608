use Rattle.std.proofs.Common.{refl, sym, subst}
use Rattle.tr_types.specs.declared.kernel_call.Kcall.{Kcall}
use Rattle.tr_types.specs.declared.kernel_call.Kcall.TheVariants as call
use Rattle.kern_laws.proofs.MapsKeep.{find_keeps, map_keeps, unmap_keeps}
use Rattle.kern_calls.specs.Calls.{Answered}
use Rattle.kern_calls.proofs.DoneLemmas.{looked, still_works, find_follows}
use Rattle.kern_calls.proofs.kernel.Kernel.call.Goals as goal

pub returns-in-Find-clause-answered : goal.returns-in-Find-clause-answered
returns-in-Find-clause-answered c =
    let kernel = c.args.self.now in
    let words = c.args.words.now in
    let working = c.requires.mounted.working in
    let find = call.Find c.in-Find.path c.in-Find.also in
    subst (λ (kcall : Kcall). Answered kernel words c.args.thread c.args.now kcall c.find.result kernel words) (sym c.in-Find.is)
    (looked kernel words c.args.thread c.args.now find c.requires.mounted
    (λ due. still_works words kernel.holders _ _ _ working (find_keeps words kernel.holders c.in-Find.path c.in-Find.also working)) c.find.result kernel refl (find_follows words kernel c.in-Find.path c.in-Find.also c.find.result (c.find.ensures kernel.holders)))

pub returns-in-Map-clause-answered : goal.returns-in-Map-clause-answered
returns-in-Map-clause-answered c =
    let kernel = c.args.self.now in
    let words = c.args.words.now in
    let thread = c.args.thread in
    let working = c.requires.mounted.working in
    let map = call.Map c.in-Map.path c.in-Map.right c.in-Map.exclusive in
    subst (λ (kcall : Kcall). Answered kernel words thread c.args.now kcall c.map.result c.map.new.self words) (sym c.in-Map.is)
    (looked kernel words thread c.args.now map c.requires.mounted
    (λ due. still_works words kernel.holders _ _ _ working (map_keeps kernel.callers words kernel.holders thread c.in-Map.path c.in-Map.right c.in-Map.exclusive working)) c.map.result c.map.new.self refl c.map.ensures)

pub returns-in-Unmap-clause-answered : goal.returns-in-Unmap-clause-answered
returns-in-Unmap-clause-answered c =
    let kernel = c.args.self.now in
    let words = c.args.words.now in
    let working = c.requires.mounted.working in
    let unmap = call.Unmap c.in-Unmap.id in
    subst (λ (kcall : Kcall). Answered kernel words c.args.thread c.args.now kcall c.unmap.result c.unmap.new.self words) (sym c.in-Unmap.is)
    (looked kernel words c.args.thread c.args.now unmap c.requires.mounted
    (λ due. still_works words kernel.holders _ _ _ working (unmap_keeps words kernel.holders c.args.thread c.in-Unmap.id working)) c.unmap.result c.unmap.new.self refl c.unmap.ensures)
