use Rattle.std.proofs.Common.{◌≡◌, inl, inr, length, refl, sym, subst}
use Rattle.kern_model.specs.KernelCalls.{row_of, inner_of}
use Rattle.tr_types.specs.declared.kernel_call.Kcall.{Kcall}
use Rattle.tr_types.specs.declared.kernel_call.Kcall.TheVariants as call
use Rattle.kern_calls.proofs.DoneLemmas.{none_made}
use Rattle.kern_calls.proofs.kernel.Kernel.inner.Goals as goal

pub returns-in-Find-2 : goal.returns-in-Find-2
returns-in-Find-2 c =
    let kernel = c.args.self.now in
    let words = c.args.words.now in
    elim c.in-Find.is [
      | inl f ↦
          subst (λ (kcall : Kcall). 0 ≡ length (inner_of kernel.callers words kernel.holders c.args.thread c.args.now kcall)) (sym f.2)
          (none_made (row_of kernel.callers words kernel.holders c.args.thread c.args.now (call.Find f.0 f.1)) refl)
      | inr other ↦ elim other [
        | inl m ↦
            subst (λ (kcall : Kcall). 0 ≡ length (inner_of kernel.callers words kernel.holders c.args.thread c.args.now kcall)) (sym m.3)
            (none_made (row_of kernel.callers words kernel.holders c.args.thread c.args.now (call.Map m.0 m.1 m.2)) refl)
        | inr u ↦
            subst (λ (kcall : Kcall). 0 ≡ length (inner_of kernel.callers words kernel.holders c.args.thread c.args.now kcall)) (sym u.1)
            (none_made (row_of kernel.callers words kernel.holders c.args.thread c.args.now (call.Unmap u.0)) refl)
      ]
    ]
