-- Names of loads.
use Rattle.std.specs.Prelude.{Bool, ◌&&◌, ◌==◌}
use Rattle.soc_base.specs.declared.label.Label.{Label}

-- whether two labels are one
abbrev pub same_label : Label → Label → Bool
same_label one other = one.session == other.session && one.load == other.load
