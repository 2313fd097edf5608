-- Which words are addresses that the layout allows.
use Rattle.std.proofs.Common.{◌≡◌, ◌≢◌, ℕ, ◌-◌, ◌/◌, ◌%◌, ◌^◌, ◌<◌, ◌≤◌, refl, arith}
use Rattle.std.specs.Prelude.{◌↔◌}
use Rattle.zo_layout.specs.Layout.{page_at}
use Rattle.zo_plan.specs.declared.link.Addr.{Addr}
use Rattle.zo_plan.specs.declared.link.Link.{Link}
use Rattle.zo_plan.specs.declared.link.Link.TheVariants.{End, To, Astray}
use Rattle.zo_hash_dir.specs.Addresses.{IsEntryAddress, IsPageAddress, IsLink}

pub entry_is : (word : ℕ) → 256 ≤ word % 4096 → (word % 4096 - 256) % 320 ≡ 0 → word < 2 ^ 60 → IsEntryAddress word
entry_is word behind whole near = record {
  page = word / 4096;
  place = (word % 4096 - 256) / 320;
  is = omega arith;
  twelve = omega arith;
  entries = omega arith;
}

pub entry_near : (word : ℕ) → IsEntryAddress word → word < 2 ^ 60
entry_near word p =
    let near : page_at p.page < 2 ^ 60 = p.entries in
    omega (arith, p.is, p.twelve, near)

pub entry_some : (word : ℕ) → IsEntryAddress word → 0 < word
entry_some word p = omega (arith, p.is)

pub entry_behind : (word : ℕ) → IsEntryAddress word → 256 ≤ word % 4096
entry_behind word p = omega (arith, p.is, p.twelve)

pub entry_whole : (word : ℕ) → IsEntryAddress word → (word % 4096 - 256) % 320 ≡ 0
entry_whole word p = omega (arith, p.is, p.twelve)

pub entry_link_is : (word : ℕ) (link : Link) → 256 ≤ word % 4096 → (word % 4096 - 256) % 320 ≡ 0 → ((link ≡ End) ↔ (word ≡ 0))
    → ((addr : Addr) → link ≡ To addr → addr.at ≡ word) → ((link ≡ Astray) ↔ (2 ^ 60 ≤ word)) → IsLink IsEntryAddress word link
entry_link_is word End behind whole end to astray = end.0 refl
entry_link_is word (To addr) behind whole end to astray =
    let is = to addr refl in
    let near : word < 2 ^ 60 = omega (arith, is, addr.near) in
    (is, entry_is word behind whole near)
entry_link_is word Astray behind whole end to astray =
    let far = astray.0 refl in
    let some : word ≢ 0 = omega (arith, far) in
    (some, λ p. omega (arith, far, entry_near word p))

pub page_link_is : (word : ℕ) (link : Link) → word % 4096 ≡ 0 → ((link ≡ End) ↔ (word ≡ 0))
    → ((addr : Addr) → link ≡ To addr → addr.at ≡ word) → ((link ≡ Astray) ↔ (2 ^ 60 ≤ word)) → IsLink IsPageAddress word link
page_link_is word End whole end to astray = end.0 refl
page_link_is word (To addr) whole end to astray =
    let is = to addr refl in
    let page : word ≡ page_at (word / 4096) = omega arith in
    let some : 0 < word / 4096 = omega (arith, is, addr.some) in
    let near : page_at (word / 4096) < 2 ^ 60 = omega (arith, is, addr.near) in
    (is, record { page = word / 4096; is = page; some = some; near = near })
page_link_is word Astray whole end to astray =
    let far = astray.0 refl in
    let some : word ≢ 0 = omega (arith, far) in (
      some,
      λ p.
          let near : page_at p.page < 2 ^ 60 = p.near in
          omega (arith, far, p.is, near),
    )

-- which links are pages
pub page_is : (word : ℕ) (link : Link) → IsLink IsPageAddress word link → (IsPageAddress word → (addr : Addr) × (link ≡ To addr))
page_is word End is p = absurd (omega (arith, is, p.is, p.some))
page_is word (To addr) is p = (addr, refl)
page_is word Astray is p = absurd (is.1 p)

pub page_of_link : (word : ℕ) (link : Link) (addr : Addr) → IsLink IsPageAddress word link → link ≡ To addr → IsPageAddress word
page_of_link word End addr is e = cc
page_of_link word (To other) addr is e = is.1
page_of_link word Astray addr is e = cc
