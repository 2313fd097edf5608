use Rattle.std.proofs.Common.{◌≡◌, ℕ, List, Option, Some, Err, sym, ap, subst, ◌∙◌, refl, set}
use Rattle.std.proofs.lemmas.List.{with_items_is}
use Rattle.tr_types.specs.declared.kernel_call.Holder.{Holder}
use Rattle.kern_model.specs.Rights.{those_against, IsLeastOf, with_row, key_for}
use Rattle.page_rights.specs.declared.tables.MapFault.TheVariants.{InUse}
use Rattle.page_rights.specs.Tables.{View}
use Rattle.page_rights.specs.Lookup.{process_at, place_of, mapping_of, IsLeast}
use Rattle.page_rights.proofs.ChangeLemmas.{tied_mapped}
use Rattle.page_rights.proofs.AnswerLemmas.{same_tied, least_is_one, key_by_view, on_ok}
use Rattle.page_rights.proofs.tables.Tables.map.Goals as goal

pub returns-in-Some-clause-in_use : goal.returns-in-Some-clause-in_use
returns-in-Some-clause-in_use c other =
    let rows = c.deref.ensures.value ∙ ap (λ (v : View). v.holders) c.self.view_is in
    let least = subst (λ (hs : List Holder). IsLeastOf (those_against c.args.thread c.args.id c.args.exclusive hs) c.in-Some.other) rows c.in-Some.ensures in (
      λ e. let same : c.in-Some.other ≡ other = cc in subst (λ (t : ℕ). IsLeastOf (those_against c.args.thread c.args.id c.args.exclusive c.args.self.now.holders) t) same least,
      λ too. ap (λ (t : ℕ). Err (InUse t)) (least_is_one _ _ _ least too),
    )

pub returns-in_default-key_for-clause-no_key : goal.returns-in_default-key_for-clause-no_key
returns-in_default-key_for-clause-no_key c =
    let rows = c.deref.ensures.value ∙ ap (λ (v : View). v.holders) c.self.view_is in
    let against = subst (λ (o : Option ℕ). IsLeast (those_against c.args.thread c.args.id c.args.exclusive c.deref.result.now) o) c.in_default.is c.least_against.ensures in
    let process = ap (λ (p : List (Option ℕ)). process_at p c.args.thread) (sym c.deref-2.ensures.value) ∙ c.process_of-process.ensures in
    let keys = key_by_view _ _ _ _ _ _ c.self.invariant _ _ c.self.view_is c.args.thread _ c.args.id _ process c.deref-3.ensures.value c.deref-4.ensures.value c.key_for.ensures in
    (λ _. (ap (λ (hs : List Holder). those_against c.args.thread c.args.id c.args.exclusive hs) (sym rows) ∙ against, keys.1 ∙ c.in_default-key_for.is), λ _. refl)

pub invariant_of-self-2 : goal.invariant_of-self-2
invariant_of-self-2 c =
    let process = ap (λ (p : List (Option ℕ)). process_at p c.args.thread) (sym c.deref-2.ensures.value) ∙ c.process_of-process.ensures in
    let keys = key_by_view _ _ _ _ _ _ c.self.invariant _ _ c.self.view_is c.args.thread _ c.args.id _ process c.deref-3.ensures.value c.deref-4.ensures.value c.key_for.ensures in
    let row : Holder = record { thread = c.args.thread; id = c.args.id; key = c.in-Some-key_for.key; right = c.args.right; exclusive = c.args.exclusive } in
    let rows : c.put_row.new.holders.items ≡ with_row row c.self.inside.holders.items = on_ok _ _ (sym c.is_err.ensures.value ∙ c.if-is_err.false) c.put_row.ensures.ok in
    let mappings = with_items_is c.self.inside.mappings c.look_up.new.mappings (c.look_up.auto.mappings ∙ c.deref_mut-2.ensures.len)
    ∙ c.look_up.ensures
    ∙ (λ i. set (c.deref_mut-2.ensures.value i) (place_of c.process_of-process.result c.args.id) (mapping_of (c.deref-5.ensures.value i) ((c.deref-6.ensures.value ∙ rows) i) c.process_of-process.result c.args.id)) in
    same_tied _ _ _ _ _ _ rows mappings
    (tied_mapped _ _ _ _ c.self.invariant row c.process_of-process.result process c.requires.least_id c.requires.greatest_id (keys.0 ∙ c.in-Some-key_for.is))

pub returns-clause-key : goal.returns-clause-key
returns-clause-key c =
    let process = ap (λ (p : List (Option ℕ)). process_at p c.args.thread) (sym c.deref-2.ensures.value) ∙ c.process_of-process.ensures in
    let keys = key_by_view _ _ _ _ _ _ c.self.invariant _ _ c.self.view_is c.args.thread _ c.args.id _ process c.deref-3.ensures.value c.deref-4.ensures.value c.key_for.ensures in
    keys.1 ∙ c.in-Some-key_for.is

pub returns-clause-no_key : goal.returns-clause-no_key
returns-clause-no_key c =
    let key : key_for c.args.self.now.threads c.args.self.now.holders c.args.thread c.args.id ≡ Some c.in-Some-key_for.key = returns-clause-key c in
    (λ e. absurd (cc), λ e. let none = e.1 in absurd (cc))

pub returns-then-is_err-clause-no_key : goal.returns-then-is_err-clause-no_key
returns-then-is_err-clause-no_key c =
    let process = ap (λ (p : List (Option ℕ)). process_at p c.args.thread) (sym c.deref-2.ensures.value) ∙ c.process_of-process.ensures in
    let keys = key_by_view _ _ _ _ _ _ c.self.invariant _ _ c.self.view_is c.args.thread _ c.args.id _ process c.deref-3.ensures.value c.deref-4.ensures.value c.key_for.ensures in
    let key : key_for c.args.self.now.threads c.args.self.now.holders c.args.thread c.args.id ≡ Some c.in-Some-key_for.key = keys.1 ∙ c.in-Some-key_for.is in
    (λ e. absurd (cc), λ e. let none = e.1 in absurd (cc))
