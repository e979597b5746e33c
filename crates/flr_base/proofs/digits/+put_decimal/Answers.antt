use Rattle.std.proofs.Common.{ℕ, ◌+◌, ◌/◌, ◌%◌, List, [], ◌∷◌, ◌++◌, ap, sym, ◌∙◌, append_assoc, arith}
use Rattle.std.specs.Fmt.{decimal}
use Rattle.std.proofs.lemmas.Fmt.{decimal_step}
use Rattle.flr_base.proofs.Puts.{puts}
use Rattle.flr_base.proofs.digits.+put_decimal.Goals as goal

pub returns : goal.returns
returns t c =
    let out = c.args.out.now.items in
    let n = c.args.n in
    let last : List ℕ = (48 + n % 10) ∷ [] in
    record {
      appended = c.in_ok-push-2.ensures.items
          ∙ ap (λ xs. xs ++ last) c.in_ok-put_decimal.ensures.appended
          ∙ append_assoc out (decimal (n / 10)) last
          ∙ ap (λ ds. out ++ ds) (sym (decimal_step n (omega arith) c.ranges.n.fits));
    }

pub returns-in_err-put_decimal : goal.returns-in_err-put_decimal
returns-in_err-put_decimal t c = grind (arith, puts, decimal_step c.args.n (omega arith) c.ranges.n.fits)

pub returns-in_err-push-2 : goal.returns-in_err-push-2
returns-in_err-push-2 t c = grind (arith, puts, decimal_step c.args.n (omega arith) c.ranges.n.fits)
