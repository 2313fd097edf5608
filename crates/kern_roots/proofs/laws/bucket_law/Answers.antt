use Rattle.kern_roots.proofs.ChangingAdded.{added_buckets}
use Rattle.kern_roots.proofs.ChangingDrop.{dropped_buckets}
use Rattle.kern_roots.proofs.ChangingSets.{touched_buckets, perm_touches, state_touches, root_touches}
use Rattle.kern_roots.proofs.laws.bucket_law.Goals as goal

pub returns : goal.returns
returns c = λ pages at after passes. record {
  added = λ coffer coming same. added_buckets pages at after coffer passes coming same;
  dropped = λ id has same. dropped_buckets pages at after id passes has same;
  perm = λ id perm has same. touched_buckets pages id at after passes (perm_touches pages at after id perm has same);
  state = λ id state has valid same. touched_buckets pages id at after passes (state_touches pages at after id state has valid same);
  root = λ id root has same. touched_buckets pages id at after passes (root_touches pages at after id root has same);
}
