-- How many entries there can be: twelve to a page.
use Rattle.std.proofs.Common.{◌≡◌, ℕ, zero, suc, ◌*◌, ◌<◌, ◌≤◌, true, false, Bool, List, [], ◌∷◌, length, map, get_or, Contains, ap, sym, refl, subst, ◌∙◌, arith}
use Rattle.std.specs.Prelude.{nat_eq}
use Rattle.std.specs.List.{IsDistinct, AllByRecursion, range_with_len, flat_map}
use Rattle.std.proofs.lemmas.Bool.Decides.{Decides-eqb}
use Rattle.std.proofs.lemmas.Cmp.{nat_eq_equiv}
use Rattle.std.proofs.lemmas.List.{length-append}
use Rattle.std.proofs.lemmas.List.FromFn.{length-map-range_with_len, get_or-map-range_with_len}
use Rattle.std.proofs.lemmas.List.Elements.{Contains-append_left, Contains-append_right}
use Rattle.std.proofs.lemmas.Map.Made.{is_member-Decides, length-le_from_is_member}
use Rattle.std.proofs.lemmas.Map.Keys.{IsDistinct-head, IsDistinct-tail, IsDistinct-cons}
use Rattle.tr_types.specs.Paths.{same_text}
use Rattle.zo_layout.specs.Layout.{page_at, entry_place}
use Rattle.zo_model.specs.Directory.{IsPlace}
use Rattle.zo_hash_dir.specs.Scene.{IsPageOf}
use Rattle.zo_hash_dir.proofs.Names.{same_text_is}

-- a list without repeats is no longer than one that has all its members
pub no_longer : (xs ys : List ℕ) → IsDistinct nat_eq xs → ((x : ℕ) → Contains xs x → Contains ys x) → length xs ≤ length ys
no_longer xs ys distinct within =
    length-le_from_is_member nat_eq_equiv xs ys distinct (λ q h. (is_member-Decides Decides-eqb ys q).1 (within q ((is_member-Decides Decides-eqb xs q).0 h)))

pub no_entry : IsDistinct nat_eq []
unfolding IsDistinct
no_entry = tt

-- entries whose names are all others are all others
pub distinct_by_name : (f : ℕ → List ℕ) (entries : List ℕ) → IsDistinct same_text (map f entries) → IsDistinct nat_eq entries
distinct_by_name f [] h = no_entry
distinct_by_name f (entry ∷ entries) h =
    IsDistinct-cons nat_eq entry entries
    (others entries (IsDistinct-head same_text (f entry) (map f entries) h))
    (distinct_by_name f entries (IsDistinct-tail same_text (f entry) (map f entries) h))
  where
    apart : (other : ℕ) (r : Bool) → nat_eq entry other ≡ r → same_text (f entry) (f other) ≡ false → r ≡ false
    apart other false e ne = refl
    apart other true e ne =
        let is : entry ≡ other = (Decides-eqb entry other).0 e in
        let same : same_text (f entry) (f other) ≡ true = (same_text_is (f entry) (f other)).1 (ap f is) in
        cc

    others : (rest : List ℕ) → AllByRecursion (λ y. same_text (f entry) y ≡ false) (map f rest) → AllByRecursion (λ y. nat_eq entry y ≡ false) rest
    others [] a = tt
    others (other ∷ rest) a = (apart other (nat_eq entry other) refl a.0, others rest a.1)

-- the places of pages
abbrev pub places_of : List ℕ → List ℕ
places_of pages = flat_map (λ page. map (entry_place (page_at page)) (range_with_len 0 12)) pages

pub length-places_of : (pages : List ℕ) → length (places_of pages) ≡ 12 * length pages
length-places_of [] = refl
length-places_of (page ∷ pages) =
    let here = length-map-range_with_len (entry_place (page_at page)) 0 12 in
    omega (arith, length-append (map (entry_place (page_at page)) (range_with_len 0 12)) (places_of pages), here, length-places_of pages)

pub place_among : (pages : List ℕ) (page place : ℕ) → Contains pages page → place < 12 → Contains (places_of pages) (entry_place (page_at page) place)
place_among pages page place (k, low, is) twelve = by pages k low is
  where
    here : (p : ℕ) → p ≡ page → Contains (map (entry_place (page_at p)) (range_with_len 0 12)) (entry_place (page_at page) place)
    here p e = (
      place,
      omega (arith, length-map-range_with_len (entry_place (page_at p)) 0 12, twelve),
      get_or-map-range_with_len (entry_place (page_at p)) 0 12 place place (entry_place (page_at page) place) twelve (omega arith)
          ∙ ap (λ (n : ℕ). entry_place (page_at n) place) e,
    )

    by : (pages : List ℕ) (k : ℕ) → k < length pages → get_or pages k page ≡ page → Contains (places_of pages) (entry_place (page_at page) place)
    by [] k low is = absurd (omega arith)
    by (p ∷ pages) zero low is =
        Contains-append_left (map (entry_place (page_at p)) (range_with_len 0 12)) (places_of pages) (entry_place (page_at page) place) (here p is)
    by (p ∷ pages) (suc k) low is =
        Contains-append_right (map (entry_place (page_at p)) (range_with_len 0 12)) (places_of pages) (entry_place (page_at page) place) (by pages k (omega arith) is)

pub place_stands : (pages : List ℕ) (entry : ℕ) → IsPlace (IsPageOf pages) entry → Contains (places_of pages) entry
place_stands pages entry p = subst (Contains (places_of pages)) (sym p.is) (place_among pages p.page p.place p.entries.among p.twelve)

-- different entries in places of these pages are at most twelve times as many
pub entries_few : (pages entries : List ℕ) → ((entry : ℕ) → Contains entries entry → IsPlace (IsPageOf pages) entry) → IsDistinct nat_eq entries → length entries ≤ 12 * length pages
entries_few pages entries each distinct =
    let most = no_longer entries (places_of pages) distinct (λ entry h. place_stands pages entry (each entry h)) in
    omega (arith, most, length-places_of pages)
