use Rattle.std.proofs.Common.{◌≡◌, ◌∙◌, ℕ, List, [], length, rules, sym, ap, subst}
use Rattle.kern_model.specs.Kernel.{coffer_pages}
use Rattle.tr_types.specs.Permission.{refuses}
use Rattle.kern_model.specs.KernelCalls.{found_for, located, mapped_as, map_row}
use Rattle.tr_types.specs.declared.kernel_call.FoundAt.{FoundAt}
use Rattle.tr_types.specs.declared.kernel_call.KernAnswer.{KernAnswer}
use Rattle.tr_types.specs.declared.kernel_call.Mapped.{Mapped}
use Rattle.kern_pages.specs.Owners.{owners_of, pages_with, TellsOwners}
use Rattle.kern_calls.specs.Calls.{KernelView}
use Rattle.kern_calls.specs.Steps.{FollowsRow}
use Rattle.kern_calls.proofs.MapLemmas.{found_first, found_not, entry_there, entry_is, number_is, map_bad_path, map_denied, map_quarantined, map_held}
use Rattle.kern_calls.proofs.kernel.Kernel.map.Goals as goal

pub returns-in_default : goal.returns-in_default
returns-in_default c =
    let kernel = c.args.self.now in
    let not = found_not c.args.words.now c.args.path.now c.find.result (c.find.ensures []) c.in_default.not-Found in
    subst (λ (r : KernAnswer). FollowsRow (map_row kernel.callers c.args.words.now kernel.holders c.args.thread c.args.path.now c.args.right c.args.exclusive) kernel r kernel) (sym not.1)
    (map_bad_path kernel c.args.words.now c.args.thread c.args.path.now c.args.right c.args.exclusive not.0)

pub unwrap-root-requires : goal.unwrap-root-requires
unwrap-root-requires c =
    let found = found_first c.args.words.now c.args.path.now c.in-Found.first c.in-Found.second (c.in-Found.ensures []) in
    entry_there c.args.words.now c.args.path.now c.requires.sound c.in-Found.first found.1 c.entry_of.result c.entry_of.ensures

pub count-pages-requires : goal.count-pages-requires
count-pages-requires c =
    let found = found_first c.args.words.now c.args.path.now c.in-Found.first c.in-Found.second (c.in-Found.ensures []) in
    (number_is c.args.words.now c.args.path.now c.requires.sound c.in-Found.first found.1).1

pub returns-then-refuses : goal.returns-then-refuses
returns-then-refuses c =
    let found = found_first c.args.words.now c.args.path.now c.in-Found.first c.in-Found.second (c.in-Found.ensures []) in
    let root = c.unwrap-root.result in
    let is = entry_is c.args.words.now c.args.path.now c.requires.sound c.in-Found.first found.1 c.entry_of.result root c.entry_of.ensures c.unwrap-root.ensures in
    let asked : c.refuses.result ≡ refuses root.perm c.cred_of-cred.result c.args.right = c.refuses.ensures in
    map_denied c.args.self.now c.args.words.now c.args.thread c.args.path.now c.args.right c.args.exclusive found.0 c.in-Found.first found.1 root is c.cred_of-cred.result (c.cred_of-cred.ensures.cred c.requires.started) (sym asked ∙ c.if-refuses.true)

pub returns-then-eq : goal.returns-then-eq
returns-then-eq c =
    let found = found_first c.args.words.now c.args.path.now c.in-Found.first c.in-Found.second (c.in-Found.ensures []) in
    let root = c.unwrap-root.result in
    let is = entry_is c.args.words.now c.args.path.now c.requires.sound c.in-Found.first found.1 c.entry_of.result root c.entry_of.ensures c.unwrap-root.ensures in
    let asked : c.refuses.result ≡ refuses root.perm c.cred_of-cred.result c.args.right = c.refuses.ensures in
    map_quarantined c.args.self.now c.args.words.now c.args.thread c.args.path.now c.args.right c.args.exclusive found.0 c.in-Found.first found.1 root is c.cred_of-cred.result (c.cred_of-cred.ensures.cred c.requires.started) (sym asked ∙ c.if-refuses.false) (search rules)

pub hold-requires-clause-least : goal.hold-requires-clause-least
hold-requires-clause-least c =
    let found = found_first c.args.words.now c.args.path.now c.in-Found.first c.in-Found.second (c.in-Found.ensures []) in
    (number_is c.args.words.now c.args.path.now c.requires.sound c.in-Found.first found.1).0

pub hold-requires-clause-most : goal.hold-requires-clause-most
hold-requires-clause-most c =
    let found = found_first c.args.words.now c.args.path.now c.in-Found.first c.in-Found.second (c.in-Found.ensures []) in
    (number_is c.args.words.now c.args.path.now c.requires.sound c.in-Found.first found.1).1

pub returns : goal.returns
returns c =
    let kernel = c.args.self.now in
    let words = c.args.words.now in
    let found = found_first words c.args.path.now c.in-Found.first c.in-Found.second (c.in-Found.ensures []) in
    let root = c.unwrap-root.result in
    let is = entry_is words c.args.path.now c.requires.sound c.in-Found.first found.1 c.entry_of.result root c.entry_of.ensures c.unwrap-root.ensures in
    let asked : c.refuses.result ≡ refuses root.perm c.cred_of-cred.result c.args.right = c.refuses.ensures in
    let told : TellsOwners words = c.owners_law.ensures words in
    let owners : c.self.inside.owners ≡ owners_of words = ap (λ (k : KernelView). k.owners) c.self.view_is ∙ c.requires.told in
    let pages : c.count-pages.result ≡ length (coffer_pages words (located words c.args.path.now).id) =
    c.count-pages.ensures
    ∙ ap (λ (list : List ℕ). length (pages_with c.in-Found.first.id list)) owners
    ∙ ap (λ (list : List ℕ). length list) (told.pages c.in-Found.first.id)
    ∙ ap (λ (f : FoundAt). length (coffer_pages words f.id)) found.1 in
    let first : c.in-Found.first ≡ found_for words c.args.path.now = found.1 in
    let same : (let m : Mapped = record { id = c.in-Found.first.id; key = 0; control = root.control; root = root.root; pages = c.count-pages.result; path_len = c.in-Found.first.path_len; perm = root.perm } in m ≡ mapped_as words (located words c.args.path.now) 0) =
    λ i. record { id = (first i).id; key = 0; control = (is i).control; root = (is i).root; pages = pages i; path_len = (first i).path_len; perm = (is i).perm } in
    map_held kernel words c.args.thread c.args.path.now c.args.right c.args.exclusive found.0 c.in-Found.first found.1 root is c.cred_of-cred.result (c.cred_of-cred.ensures.cred c.requires.started) _ c.hold.result c.hold.new.self
    (sym asked ∙ c.if-refuses.false) (search rules) same c.hold.ensures
