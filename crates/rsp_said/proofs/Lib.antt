mod EscapeSteps
mod Signs
mod SayingRows
