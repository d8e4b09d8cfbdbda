-- Document 01's "One program whole": its source, its object and its sheet, as bytes, the last two as 02, L1 has them.
use Rattle.std.specs.Prelude.{ℕ, List}
use Rattle.base.specs.Text.{bytes}

abbrev pub worked_source : List ℕ
worked_source = bytes
    "%BEGIN\n%INTEGER A, B\nA = 3 ; B = A - (2 - 5) / 2\n%IF B > 4 %THEN SEND(B) %ELSE ->1\n1: SEND(A)\n%ENDOFPROGRAM\n"

abbrev pub worked_object : List ℕ
worked_object = bytes
    "BOX\t2\t2\t21\nLOAD\tK\t3\nSTR\tD\t2\nLOAD\tD\t2\nSTR\tD\t4\nLOAD\tK\t2\nSUB\tK\t5\nDIV\tK\t2\nSTR\tD\t5\nLOAD\tD\t4\nSUB\tD\t5\nSTR\tD\t3\nLOAD\tD\t3\nCMP\tK\t4\nBLE\tA\t17\nLOAD\tD\t3\nSEND\t-\t0\nSKIP\tA\t18\nJMP\tA\t18\nLOAD\tD\t2\nSEND\t-\t0\nSTOP\t-\t0\n"

abbrev pub worked_sheet : List ℕ
worked_sheet = bytes
    "SHEET\t2\t6\nSET\t2\tK3\nSET\t3\t-\tW2\t/\t-\tK2\tK5\tK2\nIF\t>\tW3\tK4\nSTART\nSEND\tW3\nELSE\nGOTO\t6\nFINISH\nSEND\tW2\n"
