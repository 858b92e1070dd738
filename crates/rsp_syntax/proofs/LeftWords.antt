-- The words and signs that are left out, one by one.
use Rattle.std.proofs.Common.{◌≡◌, [], ◌∷◌, refl, codes}
use Rattle.rsp_syntax.specs.LeftOut.{signs, words}

pub words_are : words
    ≡ codes "ASK"
    ∷ codes "DESCRIBE"
    ∷ codes "CONSTRUCT"
    ∷ codes "BASE"
    ∷ codes "REDUCED"
    ∷ codes "ORDER"
    ∷ codes "LIMIT"
    ∷ codes "OFFSET"
    ∷ codes "SERVICE"
    ∷ codes "VALUES"
    ∷ codes "NOT"
    ∷ codes "EXISTS"
    ∷ codes "REGEX"
    ∷ codes "REPLACE"
    ∷ codes "UCASE"
    ∷ codes "LCASE"
    ∷ codes "ENCODE_FOR_URI"
    ∷ codes "MD5"
    ∷ codes "SHA1"
    ∷ codes "SHA256"
    ∷ codes "SHA384"
    ∷ codes "SHA512"
    ∷ codes "RAND"
    ∷ codes "NOW"
    ∷ codes "UUID"
    ∷ codes "STRUUID"
    ∷ codes "BNODE"
    ∷ codes "GROUP_CONCAT"
    ∷ codes "SAMPLE"
    ∷ codes "YEAR"
    ∷ codes "MONTH"
    ∷ codes "DAY"
    ∷ codes "HOURS"
    ∷ codes "MINUTES"
    ∷ codes "SECONDS"
    ∷ codes "TIMEZONE"
    ∷ codes "TZ"
    ∷ []
words_are = refl

pub signs_are : signs ≡ codes "*" ∷ codes "+" ∷ codes "?" ∷ codes "!" ∷ []
signs_are = refl
