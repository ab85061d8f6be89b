mod Starts
mod Opened
mod Readings
mod LineByLine
