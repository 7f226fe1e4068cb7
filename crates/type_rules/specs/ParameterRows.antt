-- What a look-up of a parameter answers.
use Rattle.type_rules.specs.declared.params.Parameter.{Parameter}
use Rattle.type_rules.specs.Parameters.{Settable}

abbrev pub settable : Parameter → Settable
settable p = record { param = p.param; elem = p.elem; is_read_only = p.is_read_only }
