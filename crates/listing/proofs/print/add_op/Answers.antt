use Rattle.std.proofs.Common.{◌≡◌, ◌++◌, List, ℕ, OnOk, subst}
use Rattle.listing.proofs.Table.{row_line-row}
use Rattle.listing.proofs.print.add_op.Goals as goal

pub returns : goal.returns
returns c = subst (λ (line : List ℕ). OnOk c.add_row_of.result (c.add_row_of.new.text ≡ c.args.text.now ++ line)) (row_line-row c.args.op) c.add_row_of.ensures
