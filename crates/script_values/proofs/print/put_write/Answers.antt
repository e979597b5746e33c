use Rattle.std.proofs.Common.{◌∷◌, ◌++◌, ℕ, List, ap, subst, ◌∙◌}
use Rattle.std.specs.Prelude.{codes}
use Rattle.std.specs.Fmt.{decimal}
use Rattle.flr_base.specs.Puts.{PutsFront}
use Rattle.flr_base.specs.Runs.{text_of_bytes}
use Rattle.flr_base.proofs.Puts.{front_join, puts_err}
use Rattle.script_values.proofs.print.put_write.Goals as goal

pub returns-in_err-put_bytes : goal.returns-in_err-put_bytes
returns-in_err-put_bytes c =
    let head : List ℕ = codes "write" ++ 32 ∷ c.args.name.now in
    let offset : List ℕ = 32 ∷ decimal c.args.offset in
    let bytes : List ℕ = 32 ∷ text_of_bytes c.args.bytes.now in
    let now : List ℕ = c.put_bytes.new.out.items in
    let start : List ℕ = c.args.out.now.items ++ head in
    let whole = c.in_ok-put_number.ensures.appended ∙ ap (λ (text : List ℕ). text ++ offset) c.in_ok-put_head.ensures in
    let front = front_join start now offset bytes (subst (λ (text : List ℕ). PutsFront text now bytes) whole c.in_err-put_bytes.ensures) in
    puts_err c.args.out.now.items now c.from_residual-in_err-put_bytes.result (head ++ (offset ++ bytes)) c.from_residual-in_err-put_bytes.ensures.0
    (front_join c.args.out.now.items now head (offset ++ bytes) front)
