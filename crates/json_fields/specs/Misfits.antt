-- Faults with what says where they stand.
use Rattle.std.specs.Prelude.{Result}
use Rattle.std.specs.Result.{result_map_both}
use Rattle.json_fields.specs.declared.misfits.Misfit.{Misfit}

-- what is read of a field, or its fault there
abbrev pub at_field : {A K F : Type 0} → K → Result A F → Result A (Misfit K F)
at_field field read = result_map_both (λ x. x) (λ fault. record { field = field; fault = fault }) read
