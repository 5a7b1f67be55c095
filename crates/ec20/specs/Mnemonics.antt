-- The instructions by their mnemonics: the number that each has in the table.
use Rattle.std.specs.Prelude.{ℕ}

abbrev pub NOP : ℕ
NOP = 0

abbrev pub LD : ℕ
LD = 1

abbrev pub LDI : ℕ
LDI = 2

abbrev pub AND : ℕ
AND = 3

abbrev pub ANI : ℕ
ANI = 4

abbrev pub OR : ℕ
OR = 5

abbrev pub ORI : ℕ
ORI = 6

abbrev pub ANB : ℕ
ANB = 7

abbrev pub ORB : ℕ
ORB = 8

abbrev pub MPS : ℕ
MPS = 9

abbrev pub MRD : ℕ
MRD = 10

abbrev pub MPP : ℕ
MPP = 11

abbrev pub OUT : ℕ
OUT = 12

abbrev pub SET : ℕ
SET = 13

abbrev pub RST : ℕ
RST = 14

abbrev pub LD= : ℕ
LD= = 15

abbrev pub LD> : ℕ
LD> = 16

abbrev pub LD< : ℕ
LD< = 17

abbrev pub TON : ℕ
TON = 18

abbrev pub FOR : ℕ
FOR = 19

abbrev pub NEXT : ℕ
NEXT = 20

abbrev pub CJ : ℕ
CJ = 21

abbrev pub LBL : ℕ
LBL = 22

abbrev pub END : ℕ
END = 23

abbrev pub MOV : ℕ
MOV = 32

abbrev pub ADD : ℕ
ADD = 33

abbrev pub SUB : ℕ
SUB = 34

abbrev pub DIV : ℕ
DIV = 35

abbrev pub SQT : ℕ
SQT = 36

abbrev pub INC : ℕ
INC = 37

abbrev pub DEC : ℕ
DEC = 38

abbrev pub VABS : ℕ
VABS = 39

abbrev pub NEG : ℕ
NEG = 40

abbrev pub DMOV : ℕ
DMOV = 48

abbrev pub DADD : ℕ
DADD = 49

abbrev pub DSUB : ℕ
DSUB = 50

abbrev pub DMUL : ℕ
DMUL = 51

abbrev pub DDIV : ℕ
DDIV = 52

abbrev pub DSQT : ℕ
DSQT = 53

abbrev pub DINC : ℕ
DINC = 54

abbrev pub DDEC : ℕ
DDEC = 55
