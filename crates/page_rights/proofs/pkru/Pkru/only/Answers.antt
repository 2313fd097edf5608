use Rattle.std.proofs.Common.{◌<◌, ◌*◌, arith}
use Rattle.std.proofs.lemmas.Nat.{one_shl}
use Rattle.page_rights.proofs.RegisterLemmas.{access_bit_is_low}
use Rattle.page_rights.proofs.pkru.Pkru.only.Goals as goal

pub overflow_sub-result : goal.overflow_sub-result
overflow_sub-result c =
    let low : 2 * c.args.key < 32 = omega arith in
    let bit = one_shl (2 * c.args.key) 32 low in
    omega (arith, access_bit_is_low c.args.key c.requires.greatest)
