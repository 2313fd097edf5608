-- Where the words of a directory may lead.
use Rattle.std.specs.Prelude.{◌≡◌, ◌≢◌, ◌⊎◌, ℕ, ◌<◌, ◌^◌}
use Rattle.zo_layout.specs.Layout.{page_at}
use Rattle.zo_model.specs.Directory.{IsPlace}
use Rattle.zo_plan.specs.declared.link.Link.{Link}
use Rattle.zo_plan.specs.declared.link.Link.TheVariants as link

-- a page so low that no sum of addresses in it wraps; those of all images are
abbrev pub IsNear : ℕ → Type 0
IsNear page = page_at page < 2 ^ 60

-- an address that the layout allows for an entry
abbrev pub IsEntryAddress : ℕ → Type 0
IsEntryAddress = IsPlace IsNear

-- an address that the layout allows for a page
pub record IsPageAddress (word : ℕ) : Type 0 where
  pub page : ℕ
  pub is : word ≡ page_at page
  pub some : 0 < page
  pub near : IsNear page

-- what the layout allows for an entry's target: a page, or 1 for a coffer of its own
abbrev pub IsTarget : ℕ → Type 0
IsTarget word = (word ≡ 1) ⊎ IsPageAddress word

-- the word leads nowhere, or to an address that is allowed, or it is neither 0 nor allowed
abbrev pub IsLink : (ℕ → Type 0) → ℕ → Link → Type 0
IsLink Allowed word link.End = word ≡ 0
IsLink Allowed word (link.To addr) = (addr.at ≡ word) × Allowed word
IsLink Allowed word link.Astray = (word ≢ 0) × (Allowed word → ⊥)
