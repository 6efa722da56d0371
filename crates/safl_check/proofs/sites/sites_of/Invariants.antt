use Rattle.std.proofs.Common.{◌≡◌, ◌++◌, drop, map}
use Rattle.safl_typing.specs.Forms.{all_sites, shown_function}
use Rattle.safl_check.proofs.sites.sites_of.Given as goal

-- those of the functions that are left are still to be added
abbrev pub invariant-loop-caller : goal.invariant-loop-caller
invariant-loop-caller l = l.sites.items ++ all_sites l.caller (map shown_function (drop l.caller l.functions)) ≡ all_sites 0 (map shown_function l.functions)
