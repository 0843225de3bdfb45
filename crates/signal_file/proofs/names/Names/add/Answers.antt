use Rattle.std.proofs.Common.{ℕ, List, [], ◌∷◌, ◌++◌, ap, ◌∙◌}
use Rattle.std.specs.List.{list_any}
use Rattle.std.specs.Str.{bytes_eq}
use Rattle.signal_file.proofs.Named.{added_last}
use Rattle.signal_file.proofs.names.Names.add.Goals as goal

pub returns : goal.returns
returns c =
    let name = c.args.name.now in
    let v = c.self.view_is in
    added_last (λ k. k.items) c.self.inside.names.keys c.insert_full.new.self.keys c.in-Ok.name name
    (ap (list_any (bytes_eq name)) v ∙ c.requires) c.in-Ok.ensures.items c.in-Ok-insert_full.ensures.keys
    ∙ ap (λ (l : List (List ℕ)). l ++ name ∷ []) v
