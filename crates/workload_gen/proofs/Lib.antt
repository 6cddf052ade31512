mod Coding
mod Drawing
mod OneImage
mod Size
