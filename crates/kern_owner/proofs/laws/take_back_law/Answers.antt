use Rattle.kern_owner.proofs.LawLemmas.{return_frees, return_keeps_owners, return_keeps_entries, return_keeps_buckets}
use Rattle.kern_owner.proofs.laws.take_back_law.Goals as goal

pub returns-clause-frees : goal.returns-clause-frees
returns-clause-frees c = return_frees

pub returns-clause-owners : goal.returns-clause-owners
returns-clause-owners c = return_keeps_owners

pub returns-clause-entries : goal.returns-clause-entries
returns-clause-entries c = return_keeps_entries

pub returns-clause-buckets : goal.returns-clause-buckets
returns-clause-buckets c = return_keeps_buckets
