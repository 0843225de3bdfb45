-- Each keyword and each mark is written as it is read.
use Rattle.std.proofs.Common.{[], ◌∷◌, ◌++◌, refl, codes}
use Rattle.plex_lexer.specs.declared.token.TokenKind.TheVariants as kinds
use Rattle.plex_lexer.specs.Lexed.{lexed}
use Rattle.plex_lexer.specs.Marks.{single_mark}
use Rattle.plex_lexer.specs.Words.{keyword_of}
use Rattle.token_grammar.specs.Language.{word}
use Rattle.plex_ast.specs.Words as classes
use Rattle.plex_print.specs.Writing.{say}
use Rattle.plex_print.proofs.Lexing.{Reads-one, Reads-word}
use Rattle.plex_print.proofs.Fits.{Fits, Fits-keyword, Fits-mark}

pub fits-SIGNAL : Fits (Unit {0}) (word classes.SIGNAL) (word classes.SIGNAL) (say (codes "SIGNAL"))
unfolding keyword_of
fits-SIGNAL = Fits-keyword 0 (codes "SIGNAL") (Reads-word 83 (73 ∷ 71 ∷ 78 ∷ 65 ∷ 76 ∷ []) (kinds.Keyword 0) refl refl (λ o l. refl))

pub fits-SINGLE : Fits (Unit {0}) (word classes.SINGLE) (word classes.SINGLE) (say (codes "SINGLE"))
unfolding keyword_of
fits-SINGLE = Fits-keyword 1 (codes "SINGLE") (Reads-word 83 (73 ∷ 78 ∷ 71 ∷ 76 ∷ 69 ∷ []) (kinds.Keyword 1) refl refl (λ o l. refl))

pub fits-COMBINED : Fits (Unit {0}) (word classes.COMBINED) (word classes.COMBINED) (say (codes "COMBINED"))
unfolding keyword_of
fits-COMBINED = Fits-keyword 2 (codes "COMBINED") (Reads-word 67 (79 ∷ 77 ∷ 66 ∷ 73 ∷ 78 ∷ 69 ∷ 68 ∷ []) (kinds.Keyword 2) refl refl (λ o l. refl))

pub fits-BUFFERED : Fits (Unit {0}) (word classes.BUFFERED) (word classes.BUFFERED) (say (codes "BUFFERED"))
unfolding keyword_of
fits-BUFFERED = Fits-keyword 3 (codes "BUFFERED") (Reads-word 66 (85 ∷ 70 ∷ 70 ∷ 69 ∷ 82 ∷ 69 ∷ 68 ∷ []) (kinds.Keyword 3) refl refl (λ o l. refl))

pub fits-DIRECT : Fits (Unit {0}) (word classes.DIRECT) (word classes.DIRECT) (say (codes "DIRECT"))
unfolding keyword_of
fits-DIRECT = Fits-keyword 4 (codes "DIRECT") (Reads-word 68 (73 ∷ 82 ∷ 69 ∷ 67 ∷ 84 ∷ []) (kinds.Keyword 4) refl refl (λ o l. refl))

pub fits-OUTSIDE : Fits (Unit {0}) (word classes.OUTSIDE) (word classes.OUTSIDE) (say (codes "OUTSIDE"))
unfolding keyword_of
fits-OUTSIDE = Fits-keyword 5 (codes "OUTSIDE") (Reads-word 79 (85 ∷ 84 ∷ 83 ∷ 73 ∷ 68 ∷ 69 ∷ []) (kinds.Keyword 5) refl refl (λ o l. refl))

pub fits-DATA : Fits (Unit {0}) (word classes.DATA) (word classes.DATA) (say (codes "DATA"))
unfolding keyword_of
fits-DATA = Fits-keyword 6 (codes "DATA") (Reads-word 68 (65 ∷ 84 ∷ 65 ∷ []) (kinds.Keyword 6) refl refl (λ o l. refl))

pub fits-ANSWER : Fits (Unit {0}) (word classes.ANSWER) (word classes.ANSWER) (say (codes "ANSWER"))
unfolding keyword_of
fits-ANSWER = Fits-keyword 7 (codes "ANSWER") (Reads-word 65 (78 ∷ 83 ∷ 87 ∷ 69 ∷ 82 ∷ []) (kinds.Keyword 7) refl refl (λ o l. refl))

pub fits-BLOCK : Fits (Unit {0}) (word classes.BLOCK) (word classes.BLOCK) (say (codes "BLOCK"))
unfolding keyword_of
fits-BLOCK = Fits-keyword 8 (codes "BLOCK") (Reads-word 66 (76 ∷ 79 ∷ 67 ∷ 75 ∷ []) (kinds.Keyword 8) refl refl (λ o l. refl))

pub fits-DECLARE : Fits (Unit {0}) (word classes.DECLARE) (word classes.DECLARE) (say (codes "DECLARE"))
unfolding keyword_of
fits-DECLARE = Fits-keyword 9 (codes "DECLARE") (Reads-word 68 (69 ∷ 67 ∷ 76 ∷ 65 ∷ 82 ∷ 69 ∷ []) (kinds.Keyword 9) refl refl (λ o l. refl))

pub fits-VARIABLE : Fits (Unit {0}) (word classes.VARIABLE) (word classes.VARIABLE) (say (codes "VARIABLE"))
unfolding keyword_of
fits-VARIABLE = Fits-keyword 10 (codes "VARIABLE") (Reads-word 86 (65 ∷ 82 ∷ 73 ∷ 65 ∷ 66 ∷ 76 ∷ 69 ∷ []) (kinds.Keyword 10) refl refl (λ o l. refl))

pub fits-TEMPORARY : Fits (Unit {0}) (word classes.TEMPORARY) (word classes.TEMPORARY) (say (codes "TEMPORARY"))
unfolding keyword_of
fits-TEMPORARY = Fits-keyword 11 (codes "TEMPORARY") (Reads-word 84 (69 ∷ 77 ∷ 80 ∷ 79 ∷ 82 ∷ 65 ∷ 82 ∷ 89 ∷ []) (kinds.Keyword 11) refl refl (λ o l. refl))

pub fits-FILE : Fits (Unit {0}) (word classes.FILE) (word classes.FILE) (say (codes "FILE"))
unfolding keyword_of
fits-FILE = Fits-keyword 12 (codes "FILE") (Reads-word 70 (73 ∷ 76 ∷ 69 ∷ []) (kinds.Keyword 12) refl refl (λ o l. refl))

pub fits-FORLOPP : Fits (Unit {0}) (word classes.FORLOPP) (word classes.FORLOPP) (say (codes "FORLOPP"))
unfolding keyword_of
fits-FORLOPP = Fits-keyword 13 (codes "FORLOPP") (Reads-word 70 (79 ∷ 82 ∷ 76 ∷ 79 ∷ 80 ∷ 80 ∷ []) (kinds.Keyword 13) refl refl (λ o l. refl))

pub fits-FIELD : Fits (Unit {0}) (word classes.FIELD) (word classes.FIELD) (say (codes "FIELD"))
unfolding keyword_of
fits-FIELD = Fits-keyword 14 (codes "FIELD") (Reads-word 70 (73 ∷ 69 ∷ 76 ∷ 68 ∷ []) (kinds.Keyword 14) refl refl (λ o l. refl))

pub fits-WIDTH : Fits (Unit {0}) (word classes.WIDTH) (word classes.WIDTH) (say (codes "WIDTH"))
unfolding keyword_of
fits-WIDTH = Fits-keyword 15 (codes "WIDTH") (Reads-word 87 (73 ∷ 68 ∷ 84 ∷ 72 ∷ []) (kinds.Keyword 15) refl refl (λ o l. refl))

pub fits-SIZE : Fits (Unit {0}) (word classes.SIZE) (word classes.SIZE) (say (codes "SIZE"))
unfolding keyword_of
fits-SIZE = Fits-keyword 16 (codes "SIZE") (Reads-word 83 (73 ∷ 90 ∷ 69 ∷ []) (kinds.Keyword 16) refl refl (λ o l. refl))

pub fits-INIT : Fits (Unit {0}) (word classes.INIT) (word classes.INIT) (say (codes "INIT"))
unfolding keyword_of
fits-INIT = Fits-keyword 17 (codes "INIT") (Reads-word 73 (78 ∷ 73 ∷ 84 ∷ []) (kinds.Keyword 17) refl refl (λ o l. refl))

pub fits-SURVEY : Fits (Unit {0}) (word classes.SURVEY) (word classes.SURVEY) (say (codes "SURVEY"))
unfolding keyword_of
fits-SURVEY = Fits-keyword 18 (codes "SURVEY") (Reads-word 83 (85 ∷ 82 ∷ 86 ∷ 69 ∷ 89 ∷ []) (kinds.Keyword 18) refl refl (λ o l. refl))

pub fits-RECEIVE : Fits (Unit {0}) (word classes.RECEIVE) (word classes.RECEIVE) (say (codes "RECEIVE"))
unfolding keyword_of
fits-RECEIVE = Fits-keyword 19 (codes "RECEIVE") (Reads-word 82 (69 ∷ 67 ∷ 69 ∷ 73 ∷ 86 ∷ 69 ∷ []) (kinds.Keyword 19) refl refl (λ o l. refl))

pub fits-SEND : Fits (Unit {0}) (word classes.SEND) (word classes.SEND) (say (codes "SEND"))
unfolding keyword_of
fits-SEND = Fits-keyword 20 (codes "SEND") (Reads-word 83 (69 ∷ 78 ∷ 68 ∷ []) (kinds.Keyword 20) refl refl (λ o l. refl))

pub fits-PROGRAM : Fits (Unit {0}) (word classes.PROGRAM) (word classes.PROGRAM) (say (codes "PROGRAM"))
unfolding keyword_of
fits-PROGRAM = Fits-keyword 21 (codes "PROGRAM") (Reads-word 80 (82 ∷ 79 ∷ 71 ∷ 82 ∷ 65 ∷ 77 ∷ []) (kinds.Keyword 21) refl refl (λ o l. refl))

pub fits-END : Fits (Unit {0}) (word classes.END) (word classes.END) (say (codes "END"))
unfolding keyword_of
fits-END = Fits-keyword 22 (codes "END") (Reads-word 69 (78 ∷ 68 ∷ []) (kinds.Keyword 22) refl refl (λ o l. refl))

pub fits-GOTO : Fits (Unit {0}) (word classes.GOTO) (word classes.GOTO) (say (codes "GOTO"))
unfolding keyword_of
fits-GOTO = Fits-keyword 23 (codes "GOTO") (Reads-word 71 (79 ∷ 84 ∷ 79 ∷ []) (kinds.Keyword 23) refl refl (λ o l. refl))

pub fits-IF : Fits (Unit {0}) (word classes.IF) (word classes.IF) (say (codes "IF"))
unfolding keyword_of
fits-IF = Fits-keyword 24 (codes "IF") (Reads-word 73 (70 ∷ []) (kinds.Keyword 24) refl refl (λ o l. refl))

pub fits-THEN : Fits (Unit {0}) (word classes.THEN) (word classes.THEN) (say (codes "THEN"))
unfolding keyword_of
fits-THEN = Fits-keyword 25 (codes "THEN") (Reads-word 84 (72 ∷ 69 ∷ 78 ∷ []) (kinds.Keyword 25) refl refl (λ o l. refl))

pub fits-ELSE : Fits (Unit {0}) (word classes.ELSE) (word classes.ELSE) (say (codes "ELSE"))
unfolding keyword_of
fits-ELSE = Fits-keyword 26 (codes "ELSE") (Reads-word 69 (76 ∷ 83 ∷ 69 ∷ []) (kinds.Keyword 26) refl refl (λ o l. refl))

pub fits-FI : Fits (Unit {0}) (word classes.FI) (word classes.FI) (say (codes "FI"))
unfolding keyword_of
fits-FI = Fits-keyword 27 (codes "FI") (Reads-word 70 (73 ∷ []) (kinds.Keyword 27) refl refl (λ o l. refl))

pub fits-CASE : Fits (Unit {0}) (word classes.CASE) (word classes.CASE) (say (codes "CASE"))
unfolding keyword_of
fits-CASE = Fits-keyword 28 (codes "CASE") (Reads-word 67 (65 ∷ 83 ∷ 69 ∷ []) (kinds.Keyword 28) refl refl (λ o l. refl))

pub fits-IS : Fits (Unit {0}) (word classes.IS) (word classes.IS) (say (codes "IS"))
unfolding keyword_of
fits-IS = Fits-keyword 29 (codes "IS") (Reads-word 73 (83 ∷ []) (kinds.Keyword 29) refl refl (λ o l. refl))

pub fits-WHEN : Fits (Unit {0}) (word classes.WHEN) (word classes.WHEN) (say (codes "WHEN"))
unfolding keyword_of
fits-WHEN = Fits-keyword 30 (codes "WHEN") (Reads-word 87 (72 ∷ 69 ∷ 78 ∷ []) (kinds.Keyword 30) refl refl (λ o l. refl))

pub fits-DO : Fits (Unit {0}) (word classes.DO) (word classes.DO) (say (codes "DO"))
unfolding keyword_of
fits-DO = Fits-keyword 31 (codes "DO") (Reads-word 68 (79 ∷ []) (kinds.Keyword 31) refl refl (λ o l. refl))

pub fits-OTHERWISE : Fits (Unit {0}) (word classes.OTHERWISE) (word classes.OTHERWISE) (say (codes "OTHERWISE"))
unfolding keyword_of
fits-OTHERWISE = Fits-keyword 32 (codes "OTHERWISE") (Reads-word 79 (84 ∷ 72 ∷ 69 ∷ 82 ∷ 87 ∷ 73 ∷ 83 ∷ 69 ∷ []) (kinds.Keyword 32) refl refl (λ o l. refl))

pub fits-ESAC : Fits (Unit {0}) (word classes.ESAC) (word classes.ESAC) (say (codes "ESAC"))
unfolding keyword_of
fits-ESAC = Fits-keyword 33 (codes "ESAC") (Reads-word 69 (83 ∷ 65 ∷ 67 ∷ []) (kinds.Keyword 33) refl refl (λ o l. refl))

pub fits-ON : Fits (Unit {0}) (word classes.ON) (word classes.ON) (say (codes "ON"))
unfolding keyword_of
fits-ON = Fits-keyword 34 (codes "ON") (Reads-word 79 (78 ∷ []) (kinds.Keyword 34) refl refl (λ o l. refl))

pub fits-FROM : Fits (Unit {0}) (word classes.FROM) (word classes.FROM) (say (codes "FROM"))
unfolding keyword_of
fits-FROM = Fits-keyword 35 (codes "FROM") (Reads-word 70 (82 ∷ 79 ∷ 77 ∷ []) (kinds.Keyword 35) refl refl (λ o l. refl))

pub fits-UPTO : Fits (Unit {0}) (word classes.UPTO) (word classes.UPTO) (say (codes "UPTO"))
unfolding keyword_of
fits-UPTO = Fits-keyword 36 (codes "UPTO") (Reads-word 85 (80 ∷ 84 ∷ 79 ∷ []) (kinds.Keyword 36) refl refl (λ o l. refl))

pub fits-NO : Fits (Unit {0}) (word classes.NO) (word classes.NO) (say (codes "NO"))
unfolding keyword_of
fits-NO = Fits-keyword 37 (codes "NO") (Reads-word 78 (79 ∷ []) (kinds.Keyword 37) refl refl (λ o l. refl))

pub fits-FOR : Fits (Unit {0}) (word classes.FOR) (word classes.FOR) (say (codes "FOR"))
unfolding keyword_of
fits-FOR = Fits-keyword 38 (codes "FOR") (Reads-word 70 (79 ∷ 82 ∷ []) (kinds.Keyword 38) refl refl (λ o l. refl))

pub fits-FIRST : Fits (Unit {0}) (word classes.FIRST) (word classes.FIRST) (say (codes "FIRST"))
unfolding keyword_of
fits-FIRST = Fits-keyword 39 (codes "FIRST") (Reads-word 70 (73 ∷ 82 ∷ 83 ∷ 84 ∷ []) (kinds.Keyword 39) refl refl (λ o l. refl))

pub fits-IN : Fits (Unit {0}) (word classes.IN) (word classes.IN) (say (codes "IN"))
unfolding keyword_of
fits-IN = Fits-keyword 40 (codes "IN") (Reads-word 73 (78 ∷ []) (kinds.Keyword 40) refl refl (λ o l. refl))

pub fits-WHERE : Fits (Unit {0}) (word classes.WHERE) (word classes.WHERE) (say (codes "WHERE"))
unfolding keyword_of
fits-WHERE = Fits-keyword 41 (codes "WHERE") (Reads-word 87 (72 ∷ 69 ∷ 82 ∷ 69 ∷ []) (kinds.Keyword 41) refl refl (λ o l. refl))

pub fits-ENTER : Fits (Unit {0}) (word classes.ENTER) (word classes.ENTER) (say (codes "ENTER"))
unfolding keyword_of
fits-ENTER = Fits-keyword 42 (codes "ENTER") (Reads-word 69 (78 ∷ 84 ∷ 69 ∷ 82 ∷ []) (kinds.Keyword 42) refl refl (λ o l. refl))

pub fits-WITH : Fits (Unit {0}) (word classes.WITH) (word classes.WITH) (say (codes "WITH"))
unfolding keyword_of
fits-WITH = Fits-keyword 43 (codes "WITH") (Reads-word 87 (73 ∷ 84 ∷ 72 ∷ []) (kinds.Keyword 43) refl refl (λ o l. refl))

pub fits-REFERENCE : Fits (Unit {0}) (word classes.REFERENCE) (word classes.REFERENCE) (say (codes "REFERENCE"))
unfolding keyword_of
fits-REFERENCE = Fits-keyword 44 (codes "REFERENCE") (Reads-word 82 (69 ∷ 70 ∷ 69 ∷ 82 ∷ 69 ∷ 78 ∷ 67 ∷ 69 ∷ []) (kinds.Keyword 44) refl refl (λ o l. refl))

pub fits-NEW : Fits (Unit {0}) (word classes.NEW) (word classes.NEW) (say (codes "NEW"))
unfolding keyword_of
fits-NEW = Fits-keyword 45 (codes "NEW") (Reads-word 78 (69 ∷ 87 ∷ []) (kinds.Keyword 45) refl refl (λ o l. refl))

pub fits-RETRIEVE : Fits (Unit {0}) (word classes.RETRIEVE) (word classes.RETRIEVE) (say (codes "RETRIEVE"))
unfolding keyword_of
fits-RETRIEVE = Fits-keyword 46 (codes "RETRIEVE") (Reads-word 82 (69 ∷ 84 ∷ 82 ∷ 73 ∷ 69 ∷ 86 ∷ 69 ∷ []) (kinds.Keyword 46) refl refl (λ o l. refl))

pub fits-RETURN : Fits (Unit {0}) (word classes.RETURN) (word classes.RETURN) (say (codes "RETURN"))
unfolding keyword_of
fits-RETURN = Fits-keyword 47 (codes "RETURN") (Reads-word 82 (69 ∷ 84 ∷ 85 ∷ 82 ∷ 78 ∷ []) (kinds.Keyword 47) refl refl (λ o l. refl))

pub fits-TRANSFER : Fits (Unit {0}) (word classes.TRANSFER) (word classes.TRANSFER) (say (codes "TRANSFER"))
unfolding keyword_of
fits-TRANSFER = Fits-keyword 48 (codes "TRANSFER") (Reads-word 84 (82 ∷ 65 ∷ 78 ∷ 83 ∷ 70 ∷ 69 ∷ 82 ∷ []) (kinds.Keyword 48) refl refl (λ o l. refl))

pub fits-EXIT : Fits (Unit {0}) (word classes.EXIT) (word classes.EXIT) (say (codes "EXIT"))
unfolding keyword_of
fits-EXIT = Fits-keyword 49 (codes "EXIT") (Reads-word 69 (88 ∷ 73 ∷ 84 ∷ []) (kinds.Keyword 49) refl refl (λ o l. refl))

pub fits-SEIZE : Fits (Unit {0}) (word classes.SEIZE) (word classes.SEIZE) (say (codes "SEIZE"))
unfolding keyword_of
fits-SEIZE = Fits-keyword 50 (codes "SEIZE") (Reads-word 83 (69 ∷ 73 ∷ 90 ∷ 69 ∷ []) (kinds.Keyword 50) refl refl (λ o l. refl))

pub fits-FREE : Fits (Unit {0}) (word classes.FREE) (word classes.FREE) (say (codes "FREE"))
unfolding keyword_of
fits-FREE = Fits-keyword 51 (codes "FREE") (Reads-word 70 (82 ∷ 69 ∷ 69 ∷ []) (kinds.Keyword 51) refl refl (λ o l. refl))

pub fits-AND : Fits (Unit {0}) (word classes.AND) (word classes.AND) (say (codes "AND"))
unfolding keyword_of
fits-AND = Fits-keyword 52 (codes "AND") (Reads-word 65 (78 ∷ 68 ∷ []) (kinds.Keyword 52) refl refl (λ o l. refl))

pub fits-OR : Fits (Unit {0}) (word classes.OR) (word classes.OR) (say (codes "OR"))
unfolding keyword_of
fits-OR = Fits-keyword 53 (codes "OR") (Reads-word 79 (82 ∷ []) (kinds.Keyword 53) refl refl (λ o l. refl))

pub fits-MOD : Fits (Unit {0}) (word classes.MOD) (word classes.MOD) (say (codes "MOD"))
unfolding keyword_of
fits-MOD = Fits-keyword 54 (codes "MOD") (Reads-word 77 (79 ∷ 68 ∷ []) (kinds.Keyword 54) refl refl (λ o l. refl))

pub fits-CLEAR : Fits (Unit {0}) (word classes.CLEAR) (word classes.CLEAR) (say (codes "CLEAR"))
unfolding keyword_of
fits-CLEAR = Fits-keyword 55 (codes "CLEAR") (Reads-word 67 (76 ∷ 69 ∷ 65 ∷ 82 ∷ []) (kinds.Keyword 55) refl refl (λ o l. refl))

pub fits-COMMA : Fits (Unit {0}) (word classes.COMMA) (word classes.COMMA) (say (codes ","))
unfolding lexed single_mark
fits-COMMA = Fits-mark 1 (codes ",") (Reads-one (kinds.Mark 1) (codes "," ++ (32 ∷ [])) (λ l. l) (λ n line rest. refl))

pub fits-OPEN : Fits (Unit {0}) (word classes.OPEN) (word classes.OPEN) (say (codes "("))
unfolding lexed single_mark
fits-OPEN = Fits-mark 2 (codes "(") (Reads-one (kinds.Mark 2) (codes "(" ++ (32 ∷ [])) (λ l. l) (λ n line rest. refl))

pub fits-CLOSE : Fits (Unit {0}) (word classes.CLOSE) (word classes.CLOSE) (say (codes ")"))
unfolding lexed single_mark
fits-CLOSE = Fits-mark 3 (codes ")") (Reads-one (kinds.Mark 3) (codes ")" ++ (32 ∷ [])) (λ l. l) (λ n line rest. refl))

pub fits-EQUAL : Fits (Unit {0}) (word classes.EQUAL) (word classes.EQUAL) (say (codes "="))
unfolding lexed single_mark
fits-EQUAL = Fits-mark 4 (codes "=") (Reads-one (kinds.Mark 4) (codes "=" ++ (32 ∷ [])) (λ l. l) (λ n line rest. refl))

pub fits-PLUS : Fits (Unit {0}) (word classes.PLUS) (word classes.PLUS) (say (codes "+"))
unfolding lexed single_mark
fits-PLUS = Fits-mark 5 (codes "+") (Reads-one (kinds.Mark 5) (codes "+" ++ (32 ∷ [])) (λ l. l) (λ n line rest. refl))

pub fits-MINUS : Fits (Unit {0}) (word classes.MINUS) (word classes.MINUS) (say (codes "-"))
unfolding lexed single_mark
fits-MINUS = Fits-mark 6 (codes "-") (Reads-one (kinds.Mark 6) (codes "-" ++ (32 ∷ [])) (λ l. l) (λ n line rest. refl))

pub fits-TIMES : Fits (Unit {0}) (word classes.TIMES) (word classes.TIMES) (say (codes "*"))
unfolding lexed single_mark
fits-TIMES = Fits-mark 7 (codes "*") (Reads-one (kinds.Mark 7) (codes "*" ++ (32 ∷ [])) (λ l. l) (λ n line rest. refl))

pub fits-OVER : Fits (Unit {0}) (word classes.OVER) (word classes.OVER) (say (codes "/"))
unfolding lexed single_mark
fits-OVER = Fits-mark 8 (codes "/") (Reads-one (kinds.Mark 8) (codes "/" ++ (32 ∷ [])) (λ l. l) (λ n line rest. refl))

pub fits-BELOW : Fits (Unit {0}) (word classes.BELOW) (word classes.BELOW) (say (codes "<"))
unfolding lexed single_mark
fits-BELOW = Fits-mark 9 (codes "<") (Reads-one (kinds.Mark 9) (codes "<" ++ (32 ∷ [])) (λ l. l) (λ n line rest. refl))

pub fits-ABOVE : Fits (Unit {0}) (word classes.ABOVE) (word classes.ABOVE) (say (codes ">"))
unfolding lexed single_mark
fits-ABOVE = Fits-mark 10 (codes ">") (Reads-one (kinds.Mark 10) (codes ">" ++ (32 ∷ [])) (λ l. l) (λ n line rest. refl))

pub fits-AT_MOST : Fits (Unit {0}) (word classes.AT_MOST) (word classes.AT_MOST) (say (codes "<="))
unfolding lexed single_mark
fits-AT_MOST = Fits-mark 11 (codes "<=") (Reads-one (kinds.Mark 11) (codes "<=" ++ (32 ∷ [])) (λ l. l) (λ n line rest. refl))

pub fits-AT_LEAST : Fits (Unit {0}) (word classes.AT_LEAST) (word classes.AT_LEAST) (say (codes ">="))
unfolding lexed single_mark
fits-AT_LEAST = Fits-mark 12 (codes ">=") (Reads-one (kinds.Mark 12) (codes ">=" ++ (32 ∷ [])) (λ l. l) (λ n line rest. refl))

pub fits-UNEQUAL : Fits (Unit {0}) (word classes.UNEQUAL) (word classes.UNEQUAL) (say (codes "<>"))
unfolding lexed single_mark
fits-UNEQUAL = Fits-mark 13 (codes "<>") (Reads-one (kinds.Mark 13) (codes "<>" ++ (32 ∷ [])) (λ l. l) (λ n line rest. refl))
