use Rattle.std.proofs.Common.{◌∙◌, ap, map}
use Rattle.type_table.proofs.Entries.{entered_name, meant}
use Rattle.type_table.proofs.names.ByName.add_new.Goals as goal

pub returns-clause-added : goal.returns-clause-added
returns-clause-added g c =
    ap (map meant) c.in_ok-insert.ensures.entries ∙ entered_name c.self.inside.all.entries c.args.self.now c.in_ok-name.name c.args.name.now c.args.it c.self.view_is (c.in_ok-name.ensures.items_if_clones_equal (λ x y e. e)) c.requires.free
