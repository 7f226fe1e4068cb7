-- What the functions that read functions, classes and items take, as states of the machine.
use Rattle.std.specs.Prelude.{List, [], ◌∷◌, Bool, false, Option, Some, None, Result}
use Rattle.std.specs.Global.{Box}
use Rattle.ck_lexer.specs.declared.mark.Mark.TheVariants as m
use Rattle.ck_lexer.specs.declared.token.Token.{Token}
use Rattle.ck_lexer.specs.declared.word.Word.TheVariants as w
use Rattle.ck_parser.specs.Parse.{is_end}
use Rattle.parse_exprs.specs.declared.fault.Fault.{Fault}
use Rattle.parse_exprs.specs.Machine.{State, start, done, sign, may, a_name, a_param, more_params}
use Rattle.parse_exprs.specs.Machine.{members, items}
use Rattle.parse_exprs.specs.Reads.{Slice, Reads}
use Rattle.parse_exprs.specs.Tokens.{a_word, a_mark}
use Rattle.ck_syntax.specs.Tree.{Name, Params, no_params, and_param, Member, Members, no_members}
use Rattle.ck_syntax.specs.Tree.{and_member, File, and_item}
use Rattle.ck_syntax.specs.View.{view_member, view_item, view_file}
use Rattle.ck_syntax.specs.declared.file.File.{File as FileNode}
use Rattle.ck_syntax.specs.declared.file.Item.{Item as ItemNode}
use Rattle.ck_syntax.specs.declared.file.Member.{Member as MemberNode}

-- Par (',' Par)*
abbrev pub some_params : (Params → State) → State
some_params k = a_param (λ p. more_params 1 (and_param no_params p) k)

-- '(' (Par (',' Par)*)? ')'
abbrev pub all_params : (Params → State) → State
all_params k = sign 1 (a_mark m.LeftParen) (may 1 (a_mark m.RightParen) (k no_params)
    (some_params (λ ps. sign 1 (a_mark m.RightParen) (k ps))))

-- ('extends' Name)?
abbrev pub a_parent : (Option Name → State) → State
a_parent k = may 0 (a_word w.Extends) (a_name 0 (λ n. k (Some n))) (k None)

-- behind the members of a class
abbrev pub body_end : (Members → State) → Members → State
body_end k xs = sign 0 (a_mark m.RightBrace) (k xs)

-- '{' (FunDef | Stmt)* '}'
abbrev pub a_body : (Members → State) → State
a_body k = sign 0 (a_mark m.LeftBrace) (members no_members (body_end k))

-- in the braces of a class: the members so far, and what is to come behind the braces
abbrev pub InBody : Type 0
InBody = Members × (Members → State)

abbrev pub more_members : InBody → State
more_members k = members k.0 (body_end k.1)

abbrev pub after_member : Member → InBody → State
after_member x k = members (and_member k.0 x) (body_end k.1)

-- whether the end comes next
abbrev pub at_the_end : List Token → Bool
at_the_end [] = false
at_the_end (x ∷ ts) = is_end x.kind

-- ---- what the functions that read members, items and files returned

abbrev pub ReadsMember : List Token → Result (Box MemberNode × Slice) Fault → Type 0
ReadsMember ts r =
    Reads more_members (λ x. after_member (view_member x.0.value)) (λ x. x.1.now) ts r

-- an item, behind those that came before
abbrev pub ReadsItem : List Token → Result (Box ItemNode × Slice) Fault → Type 0
ReadsItem ts r = Reads
    (λ (xs : File). items xs)
    (λ x xs. items (and_item xs (view_item x.0.value)))
    (λ x. x.1.now) ts r

-- the end, behind which nothing stands
abbrev pub ReadsEnd : {X : Type 0} → List Token → Result X Fault → Type 0
ReadsEnd ts r = Reads (λ (xs : File). items xs) (λ x xs. done xs) (λ x. []) ts r

abbrev pub ReadsFile : List Token → Result FileNode Fault → Type 0
ReadsFile ts r = Reads (λ (k : File). start) (λ x k. done (view_file x)) (λ x. []) ts r
