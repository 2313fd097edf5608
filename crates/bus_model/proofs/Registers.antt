-- The registers before any thread has opened a key.
use Rattle.std.proofs.Common.{◌≡◌, ℕ, ◌+◌, ◌<◌, List, ◌∷◌, length, map, replicate, refl, ap, ◌∙◌, suc, zero, slice_index_or}
use Rattle.std.specs.List.{range_with_len}
use Rattle.std.proofs.lemmas.List.{length-replicate, get_or-replicate}
use Rattle.kern_model.specs.Rights.{closed_pkru}
use Rattle.bus_model.specs.Machine.{closed_pkrus}

same_all : (x a n : ℕ) → map (λ _. x) (range_with_len a n) ≡ replicate n x
same_all x a zero = refl
same_all x a (suc n) = ap (λ (l : List ℕ). x ∷ l) (same_all x (a + 1) n)

pub closed_pkrus_are : closed_pkrus ≡ replicate 256 closed_pkru
unfolding closed_pkrus
closed_pkrus_are = same_all closed_pkru 0 256

pub length_closed_pkrus : length closed_pkrus ≡ 256
length_closed_pkrus = ap (λ (l : List ℕ). length l) closed_pkrus_are ∙ length-replicate 256 closed_pkru

pub closed_pkru_at : (thread d : ℕ) → thread < 256 → slice_index_or closed_pkrus thread d ≡ closed_pkru
closed_pkru_at thread d lt = ap (λ (l : List ℕ). slice_index_or l thread d) closed_pkrus_are ∙ get_or-replicate 256 thread closed_pkru d lt
