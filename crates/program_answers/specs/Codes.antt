-- The code of a program.
use Rattle.std.specs.Prelude.{ℕ, List, map}
use Rattle.ck_typed.specs.declared.class.Class.{Class}
use Rattle.ck_typed.specs.Tree.{Fun as TypedFun, Program}
use Rattle.ck_code.specs.declared.code.CodeParts.{CodeParts}
use Rattle.ck_code.specs.declared.code.Fun.{Fun}
use Rattle.ck_scheme.specs.Scheme.{body_code}
use Rattle.ck_scheme.specs.Texts.{texts_of}

-- a function by the scheme
abbrev pub fun_of : List Class → (texts : List (List ℕ)) → TypedFun → Fun
fun_of classes texts fn = record {
  params = fn.params;
  locals = fn.locals;
  code = body_code classes texts fn.body fn.result fn.place;
}

-- all of a program
abbrev pub scheme_of : Program → CodeParts
scheme_of program = record {
  funs = map (fun_of program.classes (texts_of program)) program.funs;
  texts = texts_of program;
  classes = program.classes;
  statics = program.statics;
  mains = program.mains;
}
