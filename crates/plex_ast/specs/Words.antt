-- The words of the language as a grammar sees them: each keyword and each mark is a set of one
-- class.
use Rattle.std.specs.Prelude.{ℕ, List}
use Rattle.token_grammar.specs.Language.{keyword, mark}

-- keywords
abbrev pub SIGNAL : List ℕ
SIGNAL = keyword 0

abbrev pub SINGLE : List ℕ
SINGLE = keyword 1

abbrev pub COMBINED : List ℕ
COMBINED = keyword 2

abbrev pub BUFFERED : List ℕ
BUFFERED = keyword 3

abbrev pub DIRECT : List ℕ
DIRECT = keyword 4

abbrev pub OUTSIDE : List ℕ
OUTSIDE = keyword 5

abbrev pub DATA : List ℕ
DATA = keyword 6

abbrev pub ANSWER : List ℕ
ANSWER = keyword 7

abbrev pub BLOCK : List ℕ
BLOCK = keyword 8

abbrev pub DECLARE : List ℕ
DECLARE = keyword 9

abbrev pub VARIABLE : List ℕ
VARIABLE = keyword 10

abbrev pub TEMPORARY : List ℕ
TEMPORARY = keyword 11

abbrev pub FILE : List ℕ
FILE = keyword 12

abbrev pub FORLOPP : List ℕ
FORLOPP = keyword 13

abbrev pub FIELD : List ℕ
FIELD = keyword 14

abbrev pub WIDTH : List ℕ
WIDTH = keyword 15

abbrev pub SIZE : List ℕ
SIZE = keyword 16

abbrev pub INIT : List ℕ
INIT = keyword 17

abbrev pub SURVEY : List ℕ
SURVEY = keyword 18

abbrev pub RECEIVE : List ℕ
RECEIVE = keyword 19

abbrev pub SEND : List ℕ
SEND = keyword 20

abbrev pub PROGRAM : List ℕ
PROGRAM = keyword 21

abbrev pub END : List ℕ
END = keyword 22

abbrev pub GOTO : List ℕ
GOTO = keyword 23

abbrev pub IF : List ℕ
IF = keyword 24

abbrev pub THEN : List ℕ
THEN = keyword 25

abbrev pub ELSE : List ℕ
ELSE = keyword 26

abbrev pub FI : List ℕ
FI = keyword 27

abbrev pub CASE : List ℕ
CASE = keyword 28

abbrev pub IS : List ℕ
IS = keyword 29

abbrev pub WHEN : List ℕ
WHEN = keyword 30

abbrev pub DO : List ℕ
DO = keyword 31

abbrev pub OTHERWISE : List ℕ
OTHERWISE = keyword 32

abbrev pub ESAC : List ℕ
ESAC = keyword 33

abbrev pub ON : List ℕ
ON = keyword 34

abbrev pub FROM : List ℕ
FROM = keyword 35

abbrev pub UPTO : List ℕ
UPTO = keyword 36

abbrev pub NO : List ℕ
NO = keyword 37

abbrev pub FOR : List ℕ
FOR = keyword 38

abbrev pub FIRST : List ℕ
FIRST = keyword 39

abbrev pub IN : List ℕ
IN = keyword 40

abbrev pub WHERE : List ℕ
WHERE = keyword 41

abbrev pub ENTER : List ℕ
ENTER = keyword 42

abbrev pub WITH : List ℕ
WITH = keyword 43

abbrev pub REFERENCE : List ℕ
REFERENCE = keyword 44

abbrev pub NEW : List ℕ
NEW = keyword 45

abbrev pub RETRIEVE : List ℕ
RETRIEVE = keyword 46

abbrev pub RETURN : List ℕ
RETURN = keyword 47

abbrev pub TRANSFER : List ℕ
TRANSFER = keyword 48

abbrev pub EXIT : List ℕ
EXIT = keyword 49

abbrev pub SEIZE : List ℕ
SEIZE = keyword 50

abbrev pub FREE : List ℕ
FREE = keyword 51

abbrev pub AND : List ℕ
AND = keyword 52

abbrev pub OR : List ℕ
OR = keyword 53

abbrev pub MOD : List ℕ
MOD = keyword 54

abbrev pub CLEAR : List ℕ
CLEAR = keyword 55

-- marks
abbrev pub SEMI : List ℕ
SEMI = mark 0

abbrev pub COMMA : List ℕ
COMMA = mark 1

abbrev pub OPEN : List ℕ
OPEN = mark 2

abbrev pub CLOSE : List ℕ
CLOSE = mark 3

abbrev pub EQUAL : List ℕ
EQUAL = mark 4

abbrev pub PLUS : List ℕ
PLUS = mark 5

abbrev pub MINUS : List ℕ
MINUS = mark 6

abbrev pub TIMES : List ℕ
TIMES = mark 7

abbrev pub OVER : List ℕ
OVER = mark 8

abbrev pub BELOW : List ℕ
BELOW = mark 9

abbrev pub ABOVE : List ℕ
ABOVE = mark 10

abbrev pub AT_MOST : List ℕ
AT_MOST = mark 11

abbrev pub AT_LEAST : List ℕ
AT_LEAST = mark 12

abbrev pub UNEQUAL : List ℕ
UNEQUAL = mark 13
