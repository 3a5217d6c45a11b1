use Rattle.file.proofs.Homeward.{squares_home, linear_home}
use Rattle.file.proofs.writing.write.Goals as goal

pub returns-in-Squares : goal.returns-in-Squares
returns-in-Squares c =
    let a = squares_home c.in-Squares.draft c.write_as.result c.in-Squares.is c.write_as.ensures.answer c.write_as.ensures.written in
    record { answer = a.answer; written = a.written; trip = a.trip }

pub returns-in-Linear : goal.returns-in-Linear
returns-in-Linear c =
    let a = linear_home c.in-Linear.draft c.write_as-in-Linear.result c.in-Linear.is c.write_as-in-Linear.ensures.answer c.write_as-in-Linear.ensures.written in
    record { answer = a.answer; written = a.written; trip = a.trip }
