use Rattle.std.proofs.Common.{◌≡◌, ◌≤◌, ◌<◌, ℕ, List, ◌∷◌, ◌++◌, OnOk, length, sym, subst, rules, arith}
use Rattle.std.proofs.lemmas.Fmt.{decimal_digit, length-decimal-le}
use Rattle.std.specs.Fmt.{decimal}
use Rattle.tr_text.proofs.TextLemmas.{with_byte}
use Rattle.tr_text.proofs.words.append_behind.Goals as goal

pub returns-then-number-lt10-clause-ok : goal.returns-then-number-lt10-clause-ok
returns-then-number-lt10-clause-ok c =
    let small : c.args.number < 10 = omega arith in
    subst (λ (digits : List ℕ). OnOk c.extend_from_slice.result (c.extend_from_slice.new.self.items ≡ c.args.text.now.items ++ c.args.byte ∷ digits)) (sym (decimal_digit c.args.number small)) (search rules)

pub write_digits-start-requires : goal.write_digits-start-requires
write_digits-start-requires c = search (rules, length-decimal-le 21)

pub overflow_sub-digits : goal.overflow_sub-digits
overflow_sub-digits c =
    let most : length (decimal c.args.number) ≤ 20 = search (rules, length-decimal-le 20) in
    omega arith

pub overflow_sub-start : goal.overflow_sub-start
overflow_sub-start c =
    let most : length (decimal c.args.number) ≤ 20 = search (rules, length-decimal-le 20) in
    omega arith

pub returns-clause-ok : goal.returns-clause-ok
returns-clause-ok c =
    let most : length (decimal c.args.number) ≤ 20 = search (rules, length-decimal-le 20) in
    let start = c.write_digits-start.ensures.start in
    let piece = with_byte c.write_digits-start.new.buf c.write_digits-start.result c.args.byte (decimal c.args.number) c.write_digits-start.auto.buf (omega arith) start c.write_digits-start.ensures.written in
    subst (λ (digits : List ℕ). OnOk c.extend_from_slice-2.result (c.extend_from_slice-2.new.self.items ≡ c.args.text.now.items ++ digits)) piece (search rules)
